use Rattle.std.proofs.Common.{subst}
use Rattle.cdp_host_turns.specs.Turns.{Attaches}
use Rattle.ws_service.specs.Sessions.{Talk}
use Rattle.ws_service.proofs.SessionLemmas.{served-memory, served-session, served-shut}
use Rattle.ws_service.proofs.session.serve.Goals as goal

pub returns-in-Ok-Session-clause-serves : goal.returns-in-Ok-Session-clause-serves
returns-in-Ok-Session-clause-serves g c =
    let d = g.H.Hosted.debugs in let p = c.args.p.now in let m = c.attach.new.p in let q = c.serve_attached.new.p in
    let old : Talk = record { answers = g.L.Link.answers c.args.link.now; sent = g.L.Link.sent c.args.link.now } in
    let new : Talk = record { answers = g.L.Link.answers c.serve_attached.new.link; sent = g.L.Link.sent c.serve_attached.new.link } in
    let a = subst (Attaches d p m) c.in-Ok-Session.field-0-is c.in-Ok-Session.ensures.attaches in
    served-session d c.in-Ok-Session.session p m q old new c.serve_attached.result a.0 a.1 a.2 a.3 c.serve_attached.ensures.hears

pub returns-in-Ok-Shut-clause-serves : goal.returns-in-Ok-Shut-clause-serves
returns-in-Ok-Shut-clause-serves g c =
    let d = g.H.Hosted.debugs in let p = c.args.p.now in let m = c.attach.new.p in
    let old : Talk = record { answers = g.L.Link.answers c.args.link.now; sent = g.L.Link.sent c.args.link.now } in
    served-shut d p m old (subst (Attaches d p m) c.in-Ok-Shut.field-0-is c.in-Ok-Shut.ensures.attaches)

pub returns-in-Ok-Memory-clause-serves : goal.returns-in-Ok-Memory-clause-serves
returns-in-Ok-Memory-clause-serves g c =
    let d = g.H.Hosted.debugs in let p = c.args.p.now in let m = c.attach.new.p in
    let old : Talk = record { answers = g.L.Link.answers c.args.link.now; sent = g.L.Link.sent c.args.link.now } in
    served-memory d p m old (subst (Attaches d p m) c.in-Ok-Memory.field-0-is c.in-Ok-Memory.ensures.attaches)
