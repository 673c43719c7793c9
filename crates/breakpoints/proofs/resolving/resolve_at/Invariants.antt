use Rattle.std.proofs.Common.{◌≡◌, drop}
use Rattle.breakpoints.specs.Resolving.{resolved_at}
use Rattle.breakpoints.proofs.resolving.resolve_at.Given as goal

abbrev pub invariant-loop-index : goal.invariant-loop-index
invariant-loop-index l = resolved_at l.place (drop l.index l.scripts) ≡ resolved_at l.place l.scripts
