use Rattle.std.proofs.Common.{sym, ◌∙◌, arith}
use Rattle.js_heap_operators.proofs.TextLemmas.{before-ends}
use Rattle.js_heap_operators.proofs.operators.units_before.Goals as goal

pub returns : goal.returns
returns c = sym (c.loop-i.invariant ∙ before-ends c.args.a.now c.args.b.now c.loop-i.i (omega arith))
