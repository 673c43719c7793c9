use Rattle.std.proofs.Common.{◌∙◌}
use Rattle.js_machine_engine.specs.Points.{term_at}
use Rattle.js_machine_inspection.specs.Scopes.{frame_scopes}
use Rattle.js_machine_inspection.specs.Shown.{at_script}
use Rattle.js_machine_inspection.proofs.FrameLemmas.{scopes-at}
use Rattle.js_machine_inspection.proofs.ShownLemmas.{frame-none, frame-some}
use Rattle.js_machine_inspection.proofs.walks.next_frame.Goals as goal

pub returns-in_err-frame : goal.returns-in_err-frame
returns-in_err-frame c = λ ts w taken.
    c.from_residual.ensures
    ∙ frame-none c.args.walked.frames c.args.root (term_at ts c.args.table.now c.args.stack.now c.args.point)
    w c.args.context.now taken c.in_err-frame.ensures.none

pub returns : goal.returns
returns c = λ ts w taken.
    let t = c.args.table.now in
    let ws = c.args.stack.now in
    frame-some c.args.walked.frames c.args.root (term_at ts t ws c.args.point) w c.args.context.now taken
    (at_script c.script_shown-script.result c.in_ok-frame.frame.now) c.shown.result (frame_scopes c.args.root ws)
    c.next_scope.result
    (c.script_shown-script.ensures ts c.in_ok-frame.frame.now c.in_ok-frame.ensures.some)
    (scopes-at ts t c.args.root ws c.args.point c.requires.table c.requires.at c.requires.scoped)
    c.next_scope.ensures c.shown.ensures
