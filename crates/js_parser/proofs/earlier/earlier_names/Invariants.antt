use Rattle.std.proofs.Common.{◌≡◌, ◌++◌, length}
use Rattle.js_parser.proofs.earlier.earlier_names.Given as goal

abbrev pub invariant-loop-left : goal.invariant-loop-left
invariant-loop-left l = l.left ++ l.names ≡ l.declared

abbrev pub decreases-loop-left : goal.decreases-loop-left
decreases-loop-left l = length l.left
