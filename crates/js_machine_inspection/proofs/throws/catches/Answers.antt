use Rattle.js_machine_inspection.proofs.CatchLemmas.{catches-here, catches-on}
use Rattle.js_machine_inspection.proofs.throws.catches.Goals as goal

pub returns-then-catches_at : goal.returns-then-catches_at
returns-then-catches_at c =
    catches-here c.args.stack.now c.loop-i.i c.catches_at.result c.loop-i.invariant c.catches_at.ensures
    c.if-catches_at.true

pub loop-i-preserved : goal.loop-i-preserved
loop-i-preserved c =
    catches-on c.args.stack.now c.loop-i.i c.catches_at.result c.loop-i.invariant c.catches_at.ensures
    c.if-catches_at.false
