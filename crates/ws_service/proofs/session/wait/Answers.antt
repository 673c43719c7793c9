use Rattle.std.proofs.Common.{rules, ◌≡◌, Bool, Ok, true, subst}
use Rattle.ws_service.specs.Sessions.{HandsOut, Talk}
use Rattle.ws_service.proofs.SessionLemmas.{waits-end, waits-over}
use Rattle.ws_service.proofs.session.wait.Goals as goal

pub returns-in-Ok-true-clause-waits : goal.returns-in-Ok-true-clause-waits
returns-in-Ok-true-clause-waits g c =
    let d = g.H.Hosted.debugs in let s = c.args.session in let p = c.args.p.now in let m = c.hand_out.new.p in let q = c.leave.new.p in
    let old : Talk = record { answers = g.L.Link.answers c.args.link.now; sent = g.L.Link.sent c.args.link.now } in
    let new : Talk = record { answers = g.L.Link.answers c.hand_out.new.link; sent = g.L.Link.sent c.hand_out.new.link } in
    let tested : c.in-Ok-true.field-0 ≡ true = search rules in
    let h = subst (λ (b : Bool). HandsOut d s p m old new (Ok b)) tested c.in-Ok-true.ensures.hands in
    waits-over d s p m q old new c.leave.result h c.leave.ensures

pub returns-in-Err-clause-waits : goal.returns-in-Err-clause-waits
returns-in-Err-clause-waits g c =
    let d = g.H.Hosted.debugs in let s = c.args.session in let p = c.args.p.now in let m = c.hand_out.new.p in
    let old : Talk = record { answers = g.L.Link.answers c.args.link.now; sent = g.L.Link.sent c.args.link.now } in
    let new : Talk = record { answers = g.L.Link.answers c.hand_out.new.link; sent = g.L.Link.sent c.hand_out.new.link } in
    waits-end d s p m old new c.in-Err.end c.in-Err.ensures.hands
