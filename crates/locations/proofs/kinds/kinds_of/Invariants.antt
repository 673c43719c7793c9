use Rattle.std.proofs.Common.{◌≡◌, ℕ, ◌+◌, ◌<◌, drop, length}
use Rattle.locations.specs.Kinds.{kind_of, kind_at}
use Rattle.locations.proofs.KindLemmas.{merged}
use Rattle.locations.proofs.kinds.kinds_of.Given as goal

abbrev pub invariant-loop-marked : goal.invariant-loop-marked
invariant-loop-marked l = record {
  long : length l.kinds.items ≡ length l.script.source + 1;
  stand : (x : ℕ)
      → x < length l.kinds.items
      → merged (kind_of l.kinds.items x) (kind_at l.script.spans (drop l.marked-index l.marks) x)
      ≡ kind_at l.script.spans l.marks x;
}
