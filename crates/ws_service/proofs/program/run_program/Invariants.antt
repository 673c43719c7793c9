use Rattle.std.proofs.Common.{◌≡◌, None}
use Rattle.ws_service.specs.Programs.{HasRun}
use Rattle.ws_service.proofs.program.run_program.Given as goal

-- the turns so far, and the clock tells as before
abbrev pub invariant-loop : goal.invariant-loop
invariant-loop g l = record {
  runs : HasRun g.H.Hosted.debugs (g.C.Clock.moment l.fn.clock) l.fn.p l.p
      (record { content = g.O.Sink.content l.fn.out; faults = g.O.Sink.faults l.fn.out })
      (record { content = g.O.Sink.content l.out; faults = g.O.Sink.faults l.out }) None;
  clock : g.C.Clock.moment l.clock ≡ g.C.Clock.moment l.fn.clock;
}
