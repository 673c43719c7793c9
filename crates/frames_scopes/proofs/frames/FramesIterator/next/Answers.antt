use Rattle.std.proofs.Common.{◌≡◌, ◌≤◌, [], length, sym, ◌∙◌, arith}
use Rattle.js_heap.specs.World.{World}
use Rattle.js_heap_memory.specs.Heaps.{heap_world}
use Rattle.js_machine_actions.specs.Contexts.{state_of}
use Rattle.js_semantics.specs.Terms.{Term}
use Rattle.js_semantics.specs.State.{State}
use Rattle.js_machine_engine.specs.Points.{term_at}
use Rattle.frames_scopes.specs.FrameViews.{frame_shown}
use Rattle.frames_scopes.proofs.FrameLemmas.{walk-past, walk-none, walk-next, none-left, one-less}
use Rattle.frames_scopes.proofs.frames.FramesIterator.next.Goals as goal

pub returns-then-self-frame_count-clause-steps : goal.returns-then-self-frame_count-clause-steps
returns-then-self-frame_count-clause-steps c =
    let i = c.self.inside.standing in
    let t : Term = term_at i.names.now i.table.now i.stack.now i.point in
    let s : State = state_of (heap_world i.names.now i.heap.now) i.context.now [] in
    let l : length s.frames ≤ c.self.inside.walked.frames = omega (arith, c.frame_count.ensures) in
    let e : c.args.self.now ≡ [] = sym c.self.view_is
    ∙ walk-past i.scripts.now i.root t s c.self.inside.walked.frames l in
    (e, e)

pub returns-in_err-frame-clause-steps : goal.returns-in_err-frame-clause-steps
returns-in_err-frame-clause-steps c =
    let i = c.self.inside.standing in
    let w : World = heap_world i.names.now i.heap.now in
    let t : Term = term_at i.names.now i.table.now i.stack.now i.point in
    let s : State = state_of w i.context.now [] in
    none-left c.args.self.now c.from_residual.result
    (sym c.self.view_is
    ∙ walk-none i.scripts.now i.root t s c.self.inside.walked.frames
    (sym (c.next_frame.ensures i.names.now w []) ∙ c.in_err-frame.was))
    c.from_residual.ensures

pub returns-clause-steps : goal.returns-clause-steps
returns-clause-steps c =
    let i = c.self.inside.standing in
    let w : World = heap_world i.names.now i.heap.now in
    let t : Term = term_at i.names.now i.table.now i.stack.now i.point in
    let s : State = state_of w i.context.now [] in
    let o = c.outward-self-inside in
    sym c.self.view_is
    ∙ walk-next i.scripts.now i.root t s c.self.inside.walked.frames o.result.frames c.in_ok-frame.frame
    c.here_of-here.result (frame_shown c.view_of.result) o.ensures.frames
    (sym (c.next_frame.ensures i.names.now w []) ∙ c.in_ok-frame.was) (c.here_of-here.ensures i.names.now)
    c.view_of.ensures

pub returns-clause-goes : goal.returns-clause-goes
returns-clause-goes c =
    let i = c.self.inside.standing in
    let w : World = heap_world i.names.now i.heap.now in
    let t : Term = term_at i.names.now i.table.now i.stack.now i.point in
    let s : State = state_of w i.context.now [] in
    let o = c.outward-self-inside in
    let e = sym c.self.view_is
    ∙ walk-next i.scripts.now i.root t s c.self.inside.walked.frames o.result.frames c.in_ok-frame.frame
    c.here_of-here.result (frame_shown c.view_of.result) o.ensures.frames
    (sym (c.next_frame.ensures i.names.now w []) ∙ c.in_ok-frame.was) (c.here_of-here.ensures i.names.now)
    c.view_of.ensures in
    let l = one-less _ _ _ e in
    record { on = λ _. (tt, tt, l); keeps = tt; rests = λ _. tt }
