use Rattle.std.proofs.Common.{inl, inr, length, subst, sym}
use Rattle.cdp_host.specs.Debugged.{debugging}
use Rattle.ws_service.specs.Programs.{Output}
use Rattle.ws_service.specs.Serving.{IsServing}
use Rattle.ws_service.specs.declared.ends.DoorsEnd.{DoorsEnd}
use Rattle.ws_service.specs.declared.program.RunEnd.{RunEnd}
use Rattle.debug_host_commands.specs.ServeCauses.{Harbored}
use denote.Param.Send.{sendable}
use Rattle.std.proofs.Crossing.{crosses}
use Rattle.cdp_host_record.proofs.recorded.Recorded.TheSendSync as recorded
use Rattle.cdp_host.proofs.SendLemmas.{host-send}
use Rattle.debug_host_options.specs.Held.{text_held}
use Rattle.debug_host_commands.proofs.ServeLemmas.{because-decided, because-thrown, served-stored, undecided}
use Rattle.debug_host_commands.proofs.StoredLemmas.{stored-told}
use Rattle.debug_host_commands.proofs.serve.serve_host.Goals as goal

pub serve_port-requires-send-H : goal.serve_port-requires-send-H
serve_port-requires-send-H g c κs within =
    search (sendable, host-send, recorded.the_field_send, crosses) depth 60

pub returns-in-Some-clause-cause : goal.returns-in-Some-clause-cause
returns-in-Some-clause-cause g c =
    let b = g.B.Beginning in
    let n = length c.args.opened.doors.items in
    let s = c.in-Ok.ensures.serves in
    let old : Output = record { content = g.O.Sink.content c.args.out.now; faults = g.O.Sink.faults c.args.out.now } in
    let new : Output = record { content = g.O.Sink.content c.serve_port.new.out; faults = g.O.Sink.faults c.serve_port.new.out } in
    let moment = g.C.Clock.moment c.args.clock.now in
    let before : Harbored = record { faults = g.P.Harbor.faults c.args.harbor.now; opens = g.P.Harbor.opens c.args.harbor.now; kept = g.P.Harbor.kept c.args.harbor.now } in
    let after : Harbored = record { faults = g.P.Harbor.faults c.serve_port.new.harbor; opens = g.P.Harbor.opens c.serve_port.new.harbor; kept = g.P.Harbor.kept c.serve_port.new.harbor } in
    let ends = c.in-Ok.field-0-0 in
    record {
      served = c.in-Some.end;
      because =
          because-decided b.scripts b.input b.wait n moment old new c.in-Ok.pass.seen s.0 c.args.port before after
          c.in-Ok.ensures.opened ends.run ends.doors c.in-Some.end c.in-Some.ensures s.1 c.in-Ok.ensures.door;
      storing = c.store_last.result;
      told =
          stored-told c.store_last.result (debugging b.scripts b.input b.wait) c.in-Ok.pass.seen (text_held c.args.journal) _ _
          c.store_last.ensures.stores;
      is = c.after_storing.ensures;
    }

pub returns-in-Some-clause-part : goal.returns-in-Some-clause-part
returns-in-Some-clause-part g c =
    let b = g.B.Beginning in
    let n = length c.args.opened.doors.items in
    let s = c.in-Ok.ensures.serves in
    let old : Output = record { content = g.O.Sink.content c.args.out.now; faults = g.O.Sink.faults c.args.out.now } in
    let new : Output = record { content = g.O.Sink.content c.serve_port.new.out; faults = g.O.Sink.faults c.serve_port.new.out } in
    let moment = g.C.Clock.moment c.args.clock.now in
    let before : Harbored = record { faults = g.P.Harbor.faults c.args.harbor.now; opens = g.P.Harbor.opens c.args.harbor.now; kept = g.P.Harbor.kept c.args.harbor.now } in
    let after : Harbored = record { faults = g.P.Harbor.faults c.serve_port.new.harbor; opens = g.P.Harbor.opens c.serve_port.new.harbor; kept = g.P.Harbor.kept c.serve_port.new.harbor } in
    let ends = c.in-Ok.field-0-0 in
    inr
    (served-stored b.scripts b.input b.wait n moment old new c.in-Ok.pass.seen s.0 ends.run ends.doors c.in-Some.end
    c.args.clients (text_held c.args.journal) c.store_last.result before.kept after.kept _ _ c.after_storing.result s.1 s.2
    (inl (sym c.in-Some.ensures)) c.store_last.ensures.stores c.after_storing.ensures)

pub returns-in-Ok-clause-cause : goal.returns-in-Ok-clause-cause
returns-in-Ok-clause-cause g c =
    let b = g.B.Beginning in
    let n = length c.args.opened.doors.items in
    let s = c.in-Ok.ensures.serves in
    let old : Output = record { content = g.O.Sink.content c.args.out.now; faults = g.O.Sink.faults c.args.out.now } in
    let new : Output = record { content = g.O.Sink.content c.serve_port.new.out; faults = g.O.Sink.faults c.serve_port.new.out } in
    let moment = g.C.Clock.moment c.args.clock.now in
    let before : Harbored = record { faults = g.P.Harbor.faults c.args.harbor.now; opens = g.P.Harbor.opens c.args.harbor.now; kept = g.P.Harbor.kept c.args.harbor.now } in
    let after : Harbored = record { faults = g.P.Harbor.faults c.serve_port.new.harbor; opens = g.P.Harbor.opens c.serve_port.new.harbor; kept = g.P.Harbor.kept c.serve_port.new.harbor } in
    let ends = c.in-Ok.field-0-0 in
    let un = undecided ends.run ends.doors c.in-None.ensures in
    let thrown = subst (λ (z : RunEnd × DoorsEnd). IsServing (debugging b.scripts b.input b.wait) n moment old new (record { run = z.0; doors = z.1 }) c.in-Ok.pass.seen s.0) (λ i. (un.0 i, un.1 i)) s.1 in
    record {
      served = c.last_turn-end.result.0;
      because =
          because-thrown b.scripts b.input b.wait n moment old new c.in-Ok.pass.seen s.0 c.args.port before after
          c.in-Ok.ensures.opened c.last_turn-end.result.0 thrown c.last_turn-end.ensures.shows;
      storing = c.last_turn-end.result.1;
      told =
          stored-told c.last_turn-end.result.1 (debugging b.scripts b.input b.wait) c.in-Ok.pass.seen (text_held c.args.journal) _ _
          c.last_turn-end.ensures.stores;
      is = c.after_storing-in-None.ensures;
    }

pub returns-in-Ok-clause-part : goal.returns-in-Ok-clause-part
returns-in-Ok-clause-part g c =
    let b = g.B.Beginning in
    let n = length c.args.opened.doors.items in
    let s = c.in-Ok.ensures.serves in
    let old : Output = record { content = g.O.Sink.content c.args.out.now; faults = g.O.Sink.faults c.args.out.now } in
    let new : Output = record { content = g.O.Sink.content c.serve_port.new.out; faults = g.O.Sink.faults c.serve_port.new.out } in
    let moment = g.C.Clock.moment c.args.clock.now in
    let before : Harbored = record { faults = g.P.Harbor.faults c.args.harbor.now; opens = g.P.Harbor.opens c.args.harbor.now; kept = g.P.Harbor.kept c.args.harbor.now } in
    let after : Harbored = record { faults = g.P.Harbor.faults c.serve_port.new.harbor; opens = g.P.Harbor.opens c.serve_port.new.harbor; kept = g.P.Harbor.kept c.serve_port.new.harbor } in
    let ends = c.in-Ok.field-0-0 in
    inr
    (served-stored b.scripts b.input b.wait n moment old new c.in-Ok.pass.seen s.0 ends.run ends.doors c.last_turn-end.result.0
    c.args.clients (text_held c.args.journal) c.last_turn-end.result.1 before.kept after.kept _ _ c.after_storing-in-None.result
    s.1 s.2 (inr (sym c.in-None.ensures, c.last_turn-end.ensures.shows)) c.last_turn-end.ensures.stores
    c.after_storing-in-None.ensures)
