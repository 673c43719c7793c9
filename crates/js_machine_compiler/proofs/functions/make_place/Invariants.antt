use Rattle.std.proofs.Common.{◌≡◌, ℕ, length}
use Rattle.js_machine_compiler.specs.Index.{number_at}
use Rattle.js_machine_compiler.proofs.functions.make_place.Given as goal

abbrev pub invariant-loop-i : goal.invariant-loop-i
invariant-loop-i l = record {
  same : (x : ℕ) → number_at l.index.items x ≡ number_at l.fn.index.items x;
  long : length l.index.items ≡ l._i;
}
