use Rattle.std.proofs.Common.{List, map, string_bytes, ap, subst, ◌∙◌}
use Rattle.std.specs.declared.alloc.Global.{Global}
use Rattle.std.specs.declared.string.String.{String}
use Rattle.history_lock.specs.Histories.{Begins}
use Rattle.cdp_edge_server.specs.Contents.{adds}
use Rattle.ws_service.specs.Sessions.{IsEnded, Talk}
use Rattle.ws_service.specs.declared.served.Served.{Served}
use Rattle.ws_service.proofs.SessionLemmas.{hands-all, hands-some}
use Rattle.ws_service.proofs.session.send_taken.Goals as goal

pub returns-in-Ok-clause-hands : goal.returns-in-Ok-clause-hands
returns-in-Ok-clause-hands g c = λ m t owns.
    let d = g.H.Hosted.debugs in let s = c.args.session in let p = c.args.p.now in
    let old : Talk = record { answers = g.L.Link.answers c.args.link.now; sent = g.L.Link.sent c.args.link.now } in
    let new : Talk = record { answers = g.L.Link.answers c.send_all.new.link; sent = g.L.Link.sent c.send_all.new.link } in
    hands-all d s m p old new c.args.taken t owns c.in-Ok.ensures.answers
    (c.in-Ok.ensures.sent ∙ ap (λ (l : List (String Global)). adds old.sent (map string_bytes l)) c.as_slice.ensures.value)

pub returns-clause-hands : goal.returns-clause-hands
returns-clause-hands g c = λ m t owns.
    let d = g.H.Hosted.debugs in let s = c.args.session in let p = c.args.p.now in let q = c.leave.new.p in
    let old : Talk = record { answers = g.L.Link.answers c.args.link.now; sent = g.L.Link.sent c.args.link.now } in
    let new : Talk = record { answers = g.L.Link.answers c.send_all.new.link; sent = g.L.Link.sent c.send_all.new.link } in
    let e = c.in-Err.ensures in
    hands-some d s m p q old new c.args.taken e.part.0 c.in-Err.fault c.leave.result t owns
    e.answers (subst (λ (l : List (String Global)). Begins e.part.0 (map string_bytes l)) c.as_slice.ensures.value e.part.1) e.part.2 (subst (λ (x : Served). IsEnded d s p q x c.leave.result) c.end_at.ensures c.leave.ensures)
