use Rattle.std.proofs.Common.{◌≡◌, length}
use Rattle.debug_host_options.specs.Given.{has_repeat}
use Rattle.debug_host_options.specs.Held.{parts_held}
use Rattle.debug_host_options.proofs.given.has_repeat.Given as goal

-- no option so far is given twice
abbrev pub invariant-loop-rest : goal.invariant-loop-rest
invariant-loop-rest l = has_repeat (parts_held l.rest) ≡ has_repeat (parts_held l.parts)

abbrev pub decreases-loop-rest : goal.decreases-loop-rest
decreases-loop-rest l = length l.rest
