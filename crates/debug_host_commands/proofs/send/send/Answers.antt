use Rattle.std.proofs.Common.{◌∙◌}
use Rattle.cdp_edge.specs.Outside.{HandsIn}
use Rattle.ws_service.specs.Programs.{Output}
use Rattle.debug_host_options.specs.Held.{send_held}
use Rattle.debug_host_commands.specs.SendCauses.{Dialled}
use Rattle.debug_host_commands.proofs.ClientLemmas.{one_out, since, spoke, spoke-dialled, spoke-part}
use Rattle.debug_host_commands.proofs.send.send.Goals as goal

pub speak-requires-clause-out : goal.speak-requires-clause-out
speak-requires-clause-out g c κs within = one_out _ _ c.in-Ok-dial.ensures.out

pub returns-in-Ok-dial-clause-cause : goal.returns-in-Ok-dial-clause-cause
returns-in-Ok-dial-clause-cause g c =
    let old : Output = record { content = g.O.Sink.content c.args.out.now; faults = g.O.Sink.faults c.args.out.now } in
    let new : Output = record { content = g.O.Sink.content c.speak.new.out; faults = g.O.Sink.faults c.speak.new.out } in
    let was : Dialled = record { faults = g.H.Harbor.faults c.args.harbor.now; dials = g.H.Harbor.dials c.args.harbor.now; hung_up = g.H.Harbor.hung_up c.args.harbor.now } in
    let mid : Dialled = record { faults = g.H.Harbor.faults c.dial.new.self; dials = g.H.Harbor.dials c.dial.new.self; hung_up = g.H.Harbor.hung_up c.dial.new.self } in
    let now : Dialled = record { faults = g.H.Harbor.faults c.speak.new.harbor; dials = g.H.Harbor.dials c.speak.new.harbor; hung_up = g.H.Harbor.hung_up c.speak.new.harbor } in
    let d = c.in-Ok-dial.ensures in
    rw c.outcome_of_talk.ensures
    (spoke (send_held c.args.request) (HandsIn (g.F.Shelf.files c.args.shelf.now) (g.F.Shelf.handed c.args.shelf.now) (g.F.Shelf.handed c.read_commands.new.shelf)) c.in-Ok.commands.items old new was now c.in-Ok.ensures.content c.speak.result _ _
    c.in-Ok.ensures.quiet c.in-Ok.ensures.form (c.speak.ensures.dials ∙ d.dials)
    (since c.in-Ok.commands.items c.deref.result.now c.speak.result old new was mid now c.deref.ensures.value d.quiet
    d.hung_up c.speak.ensures.speaks))

pub returns-in-Ok-dial-clause-part : goal.returns-in-Ok-dial-clause-part
returns-in-Ok-dial-clause-part g c =
    let old : Output = record { content = g.O.Sink.content c.args.out.now; faults = g.O.Sink.faults c.args.out.now } in
    let new : Output = record { content = g.O.Sink.content c.speak.new.out; faults = g.O.Sink.faults c.speak.new.out } in
    let was : Dialled = record { faults = g.H.Harbor.faults c.args.harbor.now; dials = g.H.Harbor.dials c.args.harbor.now; hung_up = g.H.Harbor.hung_up c.args.harbor.now } in
    let mid : Dialled = record { faults = g.H.Harbor.faults c.dial.new.self; dials = g.H.Harbor.dials c.dial.new.self; hung_up = g.H.Harbor.hung_up c.dial.new.self } in
    let now : Dialled = record { faults = g.H.Harbor.faults c.speak.new.harbor; dials = g.H.Harbor.dials c.speak.new.harbor; hung_up = g.H.Harbor.hung_up c.speak.new.harbor } in
    let d = c.in-Ok-dial.ensures in
    rw c.outcome_of_talk.ensures
    (spoke-part (send_held c.args.request) (HandsIn (g.F.Shelf.files c.args.shelf.now) (g.F.Shelf.handed c.args.shelf.now) (g.F.Shelf.handed c.read_commands.new.shelf)) c.in-Ok.commands.items old new was now c.in-Ok.ensures.content c.speak.result
    (since c.in-Ok.commands.items c.deref.result.now c.speak.result old new was mid now c.deref.ensures.value d.quiet
    d.hung_up c.speak.ensures.speaks))

pub returns-in-Ok-dial-clause-undialled : goal.returns-in-Ok-dial-clause-undialled
returns-in-Ok-dial-clause-undialled g c =
    let old : Output = record { content = g.O.Sink.content c.args.out.now; faults = g.O.Sink.faults c.args.out.now } in
    let new : Output = record { content = g.O.Sink.content c.speak.new.out; faults = g.O.Sink.faults c.speak.new.out } in
    let was : Dialled = record { faults = g.H.Harbor.faults c.args.harbor.now; dials = g.H.Harbor.dials c.args.harbor.now; hung_up = g.H.Harbor.hung_up c.args.harbor.now } in
    let mid : Dialled = record { faults = g.H.Harbor.faults c.dial.new.self; dials = g.H.Harbor.dials c.dial.new.self; hung_up = g.H.Harbor.hung_up c.dial.new.self } in
    let now : Dialled = record { faults = g.H.Harbor.faults c.speak.new.harbor; dials = g.H.Harbor.dials c.speak.new.harbor; hung_up = g.H.Harbor.hung_up c.speak.new.harbor } in
    let d = c.in-Ok-dial.ensures in
    rw c.outcome_of_talk.ensures
    (spoke-dialled (send_held c.args.request) (HandsIn (g.F.Shelf.files c.args.shelf.now) (g.F.Shelf.handed c.args.shelf.now) (g.F.Shelf.handed c.read_commands.new.shelf)) c.in-Ok.commands.items old new was now c.in-Ok.ensures.content _
    c.speak.result c.in-Ok.ensures.form
    (since c.in-Ok.commands.items c.deref.result.now c.speak.result old new was mid now c.deref.ensures.value d.quiet
    d.hung_up c.speak.ensures.speaks))
