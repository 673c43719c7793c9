use Rattle.std.proofs.Common.{Err, refl, sym, subst}
use Rattle.cdp_host_turns.specs.Turns.{Takes}
use Rattle.ws_service.specs.Sessions.{HandsOut, Talk}
use Rattle.ws_service.specs.declared.served.Served.{Served}
use Rattle.ws_service.proofs.SessionLemmas.{hands-gone, hands-spent, owns-taken}
use Rattle.ws_service.proofs.session.hand_out.Goals as goal

pub returns-in-Ok-Err-clause-hands : goal.returns-in-Ok-Err-clause-hands
returns-in-Ok-Err-clause-hands g c =
    let d = g.H.Hosted.debugs in let s = c.args.session in let p = c.args.p.now in let q = c.take.new.p in
    let old : Talk = record { answers = g.L.Link.answers c.args.link.now; sent = g.L.Link.sent c.args.link.now } in
    let t : Takes d s p q (Err c.in-Ok-Err.gone) = subst (Takes d s p q) c.in-Ok-Err.field-0-is c.in-Ok-Err.ensures.takes in
    subst (λ (x : Served). HandsOut d s p q old old (Err x)) (sym c.end_of.ensures)
    (hands-gone d s p q old old c.in-Ok-Err.gone t c.requires.session refl)

pub returns-in-Err-clause-hands : goal.returns-in-Err-clause-hands
returns-in-Err-clause-hands g c =
    let d = g.H.Hosted.debugs in let s = c.args.session in let p = c.args.p.now in let q = c.take.new.p in
    let old : Talk = record { answers = g.L.Link.answers c.args.link.now; sent = g.L.Link.sent c.args.link.now } in
    hands-spent d s c.in-Err.field-0.ticket p q old old c.in-Err.ensures.spent c.in-Err.ensures.none c.requires.free c.requires.session refl

pub send_taken-requires-clause-session : goal.send_taken-requires-clause-session
send_taken-requires-clause-session g c =
    let d = g.H.Hosted.debugs in let s = c.args.session in let p = c.args.p.now in let m = c.take.new.p in
    owns-taken d s p m c.in-Ok-Ok.taken (subst (Takes d s p m) c.in-Ok-Ok.field-0-is c.in-Ok-Ok.ensures.takes) c.requires.session

pub returns-in-Ok-Ok-clause-hands : goal.returns-in-Ok-Ok-clause-hands
returns-in-Ok-Ok-clause-hands g c =
    let d = g.H.Hosted.debugs in let s = c.args.session in let p = c.args.p.now in let m = c.take.new.p in
    c.send_taken.ensures.hands p (subst (Takes d s p m) c.in-Ok-Ok.field-0-is c.in-Ok-Ok.ensures.takes) c.requires.session
