use Rattle.std.proofs.Common.{◌≡◌, ℕ, length, None}
use Rattle.locations.specs.Kinds.{kind_of}
use Rattle.locations.proofs.kinds.no_kinds.Given as goal

abbrev pub invariant-loop-i : goal.invariant-loop-i
invariant-loop-i l = record {
  long : length l.kinds.items ≡ l._i;
  empty : (x : ℕ) → kind_of l.kinds.items x ≡ None;
}
