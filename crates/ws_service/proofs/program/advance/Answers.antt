use Rattle.std.proofs.Common.{List, ℕ, subst, sym}
use Rattle.cdp_host_turns.specs.Turns.{Steps}
use Rattle.ws_service.specs.Programs.{Output}
use Rattle.ws_service.proofs.ProgramLemmas.{finish-run, idle-run, broken-run, spent-run}
use Rattle.ws_service.proofs.program.advance.Goals as goal

pub returns-in-Ok-Ran-clause-runs : goal.returns-in-Ok-Ran-clause-runs
returns-in-Ok-Ran-clause-runs g c =
    let d = g.H.Hosted.debugs in
    let p = c.args.p.now in
    let m = c.run.new.p in
    let at = c.now_ms-moment.result in
    let old : Output = record { content = g.O.Sink.content c.args.out.now; faults = g.O.Sink.faults c.args.out.now } in
    let new : Output = record { content = g.O.Sink.content c.finish.new.out; faults = g.O.Sink.faults c.finish.new.out } in
    let ran = rw c.in-Ok-Ran.field-0-is at c.in-Ok-Ran.ensures.runs in
    finish-run d (g.C.Clock.moment c.args.clock.now) at p m c.finish.new.p old new c.as_slice.result.now
    c.in-Ok-Ran.state c.finish.result c.now_ms-moment.ensures.told
    (subst (λ (texts : List (List ℕ)). Steps d 256 at p m texts) (sym c.as_slice.ensures.value) ran.0) ran.1
    c.finish.ensures

pub returns-in-Ok-Idle-clause-runs : goal.returns-in-Ok-Idle-clause-runs
returns-in-Ok-Idle-clause-runs g c =
    let out : Output = record { content = g.O.Sink.content c.args.out.now; faults = g.O.Sink.faults c.args.out.now } in
    let idle = rw c.in-Ok-Idle.field-0-is at c.in-Ok-Idle.ensures.runs in
    idle-run g.H.Hosted.debugs (g.C.Clock.moment c.args.clock.now) c.args.p.now c.run.new.p out c.in-Ok-Idle.state
    c.end_in.result c.end_in.ensures idle.0 idle.1

pub returns-in-Ok-Memory-clause-runs : goal.returns-in-Ok-Memory-clause-runs
returns-in-Ok-Memory-clause-runs g c =
    let out : Output = record { content = g.O.Sink.content c.args.out.now; faults = g.O.Sink.faults c.args.out.now } in
    let broke = rw c.in-Ok-Memory.field-0-is at c.in-Ok-Memory.ensures.runs in
    broken-run g.H.Hosted.debugs (g.C.Clock.moment c.args.clock.now) c.now_ms-moment.result c.args.p.now c.run.new.p
    out broke.0 c.now_ms-moment.ensures.told broke.1

pub returns-in-Err-clause-runs : goal.returns-in-Err-clause-runs
returns-in-Err-clause-runs g c =
    let out : Output = record { content = g.O.Sink.content c.args.out.now; faults = g.O.Sink.faults c.args.out.now } in
    spent-run g.H.Hosted.debugs (g.C.Clock.moment c.args.clock.now) c.args.p.now c.run.new.p out c.in-Err.field-0.ticket
    c.in-Err.ensures.none c.requires.free c.in-Err.ensures.spent
