use Rattle.std.proofs.Common.{◌≡◌, drop}
use Rattle.pure_eval.specs.Calling.{with_values}
use Rattle.pure_eval.proofs.calling.push_values.Given as goal

abbrev pub invariant-loop-value : goal.invariant-loop-value
invariant-loop-value l = with_values (drop l.value-index l.more) l.stack ≡ with_values l.more l.fn.stack
