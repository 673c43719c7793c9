use Rattle.std.proofs.Common.{◌≤◌, length, refl, ◌∙◌, arith}
use Rattle.js_machine_inspection.proofs.WalkLemmas.{call-here, call-passed, call-none}
use Rattle.js_machine_inspection.proofs.walks.tasks_to_call.Goals as goal

pub returns-then-is_frame_at : goal.returns-then-is_frame_at
returns-then-is_frame_at c = λ root.
    c.loop-i.invariant root
    ∙ call-here root c.args.stack.now c.loop-i.i c.is_frame_at.result c.is_frame_at.ensures c.if-is_frame_at.true

pub loop-i-init : goal.loop-i-init
loop-i-init c = λ root. refl

pub loop-i-preserved : goal.loop-i-preserved
loop-i-preserved c = λ root.
    c.loop-i.invariant root
    ∙ call-passed root c.args.stack.now c.loop-i.i c.is_frame_at.result c.is_frame_at.ensures c.if-is_frame_at.false

pub returns : goal.returns
returns c = λ root.
    let l : length c.args.stack.now ≤ c.loop-i.i = omega arith in
    c.loop-i.invariant root ∙ call-none root c.args.stack.now c.loop-i.i l
