use Rattle.std.proofs.Common.{subst}
use Rattle.js_semantics.specs.State.{Frame, push_frame}
use Rattle.js_machine_actions.specs.Contexts.{Turns}
use Rattle.js_machine_rows.proofs.CallLemmas.{frame-enters}
use Rattle.js_machine_rows.proofs.calls.enter_frame.Goals as goal

pub returns-in-Ok : goal.returns-in-Ok
returns-in-Ok c = λ source a receiver is.
    let P : Frame → Type 0 = λ f. Turns (push_frame f) c.args.context.now c.push_frame.new.self in
    frame-enters c.args.node c.args.body source a receiver c.args.own c.args.context.now c.push_frame.new.self
    (subst P is c.in-Ok.ensures)
