use Rattle.std.proofs.Common.{None, Some, refl, ◌∙◌}
use Rattle.ws_service.specs.Programs.{HasRun, Output}
use Rattle.ws_service.proofs.ProgramLemmas.{none-run, run-next}
use Rattle.ws_service.proofs.program.run_program.Given.{Over}
use Rattle.ws_service.proofs.program.run_program.Goals as goal

pub loop-init : goal.loop-init
loop-init g c =
    let out : Output = record { content = g.O.Sink.content c.args.out.now; faults = g.O.Sink.faults c.args.out.now } in
    let moment = g.C.Clock.moment c.args.clock.now in
    record { runs = none-run g.H.Hosted.debugs moment c.args.p.now out None c.requires.free refl tt refl; clock = refl }

pub loop-preserved : goal.loop-preserved
loop-preserved g c =
    let old : Output = record { content = g.O.Sink.content c.args.out.now; faults = g.O.Sink.faults c.args.out.now } in
    let mid : Output = record { content = g.O.Sink.content c.loop.out; faults = g.O.Sink.faults c.loop.out } in
    let new : Output = record { content = g.O.Sink.content c.advance.new.out; faults = g.O.Sink.faults c.advance.new.out } in
    let i = c.loop.invariant in
    let a = c.in_default.ensures in record {
      runs =
          run-next g.H.Hosted.debugs (g.C.Clock.moment c.args.clock.now) (g.C.Clock.moment c.loop.clock) c.args.p.now
          c.loop.p c.advance.new.p old mid new None i.clock i.runs a.runs;
      clock = a.clock ∙ i.clock;
    }

-- all turns, where the last one ended the run
ended : (g : Over) (c : goal.After-drop-iterator g)
    → HasRun g.H.Hosted.debugs (g.C.Clock.moment c.args.clock.now) c.args.p.now c.advance.new.p
    (record { content = g.O.Sink.content c.args.out.now; faults = g.O.Sink.faults c.args.out.now })
    (record { content = g.O.Sink.content c.advance.new.out; faults = g.O.Sink.faults c.advance.new.out })
    (Some c.in-Some-advance.end)
ended g c =
    let old : Output = record { content = g.O.Sink.content c.args.out.now; faults = g.O.Sink.faults c.args.out.now } in
    let mid : Output = record { content = g.O.Sink.content c.loop.out; faults = g.O.Sink.faults c.loop.out } in
    let new : Output = record { content = g.O.Sink.content c.advance.new.out; faults = g.O.Sink.faults c.advance.new.out } in
    let i = c.loop.invariant in
    run-next g.H.Hosted.debugs (g.C.Clock.moment c.args.clock.now) (g.C.Clock.moment c.loop.clock) c.args.p.now c.loop.p
    c.advance.new.p old mid new (Some c.in-Some-advance.end) i.clock i.runs c.in-Some-advance.ensures.runs

pub returns-in-Some-advance-clause-goes : goal.returns-in-Some-advance-clause-goes
returns-in-Some-advance-clause-goes g c = let r = ended g c in (r.entries, r.goes, r.left)

pub returns-in-Some-advance-clause-due : goal.returns-in-Some-advance-clause-due
returns-in-Some-advance-clause-due g c = (ended g c).due

pub returns-in-Some-advance-clause-writes : goal.returns-in-Some-advance-clause-writes
returns-in-Some-advance-clause-writes g c = (ended g c).writes
