use Rattle.std.proofs.Common.{ap, sym, ◌∙◌}
use Rattle.std.specs.Option.{option_map}
use Rattle.js_heap.specs.World.{World}
use Rattle.js_heap_memory.specs.Heaps.{heap_world}
use Rattle.js_machine_actions.specs.Contexts.{state_of}
use Rattle.js_semantics.specs.Terms.{Term}
use Rattle.js_semantics.specs.State.{State}
use Rattle.js_machine_engine.specs.Points.{term_at}
use Rattle.frames_scopes.specs.FrameViews.{frame_shown}
use Rattle.frames_scopes.proofs.FrameLemmas.{walk-at, walk-gone}
use Rattle.frames_scopes.proofs.standing.StandingMachine.frame.Goals as goal

pub returns-in_err-frame : goal.returns-in_err-frame
returns-in_err-frame c = λ taken.
    let i = c.args.self in
    let w : World = heap_world i.names.now i.heap.now in
    let t : Term = term_at i.names.now i.table.now i.stack.now i.point in
    let s : State = state_of w i.context.now taken in
    ap (option_map frame_shown) c.from_residual.ensures
    ∙ walk-gone i.scripts.now i.root t s c.args.depth
    (sym (c.active_frame.ensures i.names.now w taken) ∙ c.in_err-frame.was)

pub returns : goal.returns
returns c = λ taken.
    let i = c.args.self in
    let w : World = heap_world i.names.now i.heap.now in
    let t : Term = term_at i.names.now i.table.now i.stack.now i.point in
    let s : State = state_of w i.context.now taken in
    walk-at i.scripts.now i.root t s c.args.depth c.in_ok-frame.frame c.here_of-here.result
    (frame_shown c.view_of.result) (sym (c.active_frame.ensures i.names.now w taken) ∙ c.in_ok-frame.was)
    (c.here_of-here.ensures i.names.now) c.view_of.ensures
