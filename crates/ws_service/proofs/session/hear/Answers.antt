use Rattle.std.proofs.Common.{◌≡◌, inl, inr, [], ◌∷◌, string_bytes, refl, ◌∙◌}
use Rattle.cdp_edge_server.specs.Heard as heard
use Rattle.ws_service.specs.Sessions.{Talk, talks}
use Rattle.ws_service.specs.declared.served.Served.TheVariants as served
use Rattle.ws_service.proofs.SendLemmas.{adds-none}
use Rattle.ws_service.proofs.SessionLemmas.{hears-last, hears-nothing, hears-text}
use Rattle.ws_service.proofs.session.hear.Goals as goal

pub returns-in-Text-clause-hears : goal.returns-in-Text-clause-hears
returns-in-Text-clause-hears g c =
    let d = g.H.Hosted.debugs in let s = c.args.session in let p = c.args.p.now in let q = c.answer.new.p in
    let old : Talk = record { answers = g.L.Link.answers c.args.link.now; sent = g.L.Link.sent c.args.link.now } in
    let mid : Talk = record { answers = g.L.Link.answers c.recv.new.self; sent = g.L.Link.sent c.recv.new.self } in
    let new : Talk = record { answers = g.L.Link.answers c.answer.new.link; sent = g.L.Link.sent c.answer.new.link } in
    let said : mid ≡ talks old (heard.Text (string_bytes c.in-Text.text) ∷ []) [] =
    (λ i. record { answers = c.in-Text.ensures.answers i; sent = (c.recv.ensures.sent ∙ adds-none old.sent) i }) in
    hears-text d s p q (string_bytes c.in-Text.text) old mid new c.answer.result said c.answer.ensures.answers

pub returns-in-Quiet-clause-hears : goal.returns-in-Quiet-clause-hears
returns-in-Quiet-clause-hears g c =
    let d = g.H.Hosted.debugs in let s = c.args.session in let p = c.args.p.now in let q = c.wait.new.p in
    let old : Talk = record { answers = g.L.Link.answers c.args.link.now; sent = g.L.Link.sent c.args.link.now } in
    let mid : Talk = record { answers = g.L.Link.answers c.recv.new.self; sent = g.L.Link.sent c.recv.new.self } in
    let new : Talk = record { answers = g.L.Link.answers c.wait.new.link; sent = g.L.Link.sent c.wait.new.link } in
    let said : mid ≡ talks old (heard.Quiet ∷ []) [] =
    (λ i. record { answers = c.in-Quiet.ensures.answers i; sent = (c.recv.ensures.sent ∙ adds-none old.sent) i }) in
    hears-nothing d s p q old mid new c.wait.result said c.wait.ensures.waits

pub returns-in-Closed-clause-hears : goal.returns-in-Closed-clause-hears
returns-in-Closed-clause-hears g c =
    let d = g.H.Hosted.debugs in let s = c.args.session in let p = c.args.p.now in let q = c.leave.new.p in
    let old : Talk = record { answers = g.L.Link.answers c.args.link.now; sent = g.L.Link.sent c.args.link.now } in
    let mid : Talk = record { answers = g.L.Link.answers c.recv.new.self; sent = g.L.Link.sent c.recv.new.self } in
    let said : mid ≡ talks old (heard.Closed ∷ []) [] =
    (λ i. record { answers = c.in-Closed.ensures.answers i; sent = (c.recv.ensures.sent ∙ adds-none old.sent) i }) in
    hears-last d s p q (heard.Closed ∷ []) old mid served.Closed c.leave.result said (((refl, refl), refl)) tt (inr (heard.Closed, refl)) c.requires.free c.requires.session c.leave.ensures

pub returns-in-Binary-clause-hears : goal.returns-in-Binary-clause-hears
returns-in-Binary-clause-hears g c =
    let d = g.H.Hosted.debugs in let s = c.args.session in let p = c.args.p.now in let q = c.leave-in-Binary.new.p in
    let old : Talk = record { answers = g.L.Link.answers c.args.link.now; sent = g.L.Link.sent c.args.link.now } in
    let mid : Talk = record { answers = g.L.Link.answers c.recv.new.self; sent = g.L.Link.sent c.recv.new.self } in
    let said : mid ≡ talks old (heard.Binary ∷ []) [] =
    (λ i. record { answers = c.in-Binary.ensures.answers i; sent = (c.recv.ensures.sent ∙ adds-none old.sent) i }) in
    hears-last d s p q (heard.Binary ∷ []) old mid served.Binary c.leave-in-Binary.result said (((refl, refl), refl)) tt (inr (heard.Binary, refl)) c.requires.free c.requires.session c.leave-in-Binary.ensures

pub returns-in-TooBig-clause-hears : goal.returns-in-TooBig-clause-hears
returns-in-TooBig-clause-hears g c =
    let d = g.H.Hosted.debugs in let s = c.args.session in let p = c.args.p.now in let q = c.leave-in-TooBig.new.p in
    let old : Talk = record { answers = g.L.Link.answers c.args.link.now; sent = g.L.Link.sent c.args.link.now } in
    let mid : Talk = record { answers = g.L.Link.answers c.recv.new.self; sent = g.L.Link.sent c.recv.new.self } in
    let said : mid ≡ talks old (heard.TooBig ∷ []) [] =
    (λ i. record { answers = c.in-TooBig.ensures.answers i; sent = (c.recv.ensures.sent ∙ adds-none old.sent) i }) in
    hears-last d s p q (heard.TooBig ∷ []) old mid served.TooBig c.leave-in-TooBig.result said (((refl, refl), refl)) tt (inr (heard.TooBig, refl)) c.requires.free c.requires.session c.leave-in-TooBig.ensures

pub returns-in-Failed-clause-hears : goal.returns-in-Failed-clause-hears
returns-in-Failed-clause-hears g c =
    let d = g.H.Hosted.debugs in let s = c.args.session in let p = c.args.p.now in let q = c.leave-in-Failed.new.p in
    let old : Talk = record { answers = g.L.Link.answers c.args.link.now; sent = g.L.Link.sent c.args.link.now } in
    let mid : Talk = record { answers = g.L.Link.answers c.recv.new.self; sent = g.L.Link.sent c.recv.new.self } in
    let said : mid ≡ talks old (heard.Failed ∷ []) [] =
    (λ i. record { answers = c.in-Failed.ensures.answers i; sent = (c.recv.ensures.sent ∙ adds-none old.sent) i }) in
    hears-last d s p q (heard.Failed ∷ []) old mid served.Fault c.leave-in-Failed.result said (inl ((refl, refl), refl)) tt (inr (heard.Failed, refl)) c.requires.free c.requires.session c.leave-in-Failed.ensures

pub returns-in-Memory-clause-hears : goal.returns-in-Memory-clause-hears
returns-in-Memory-clause-hears g c =
    let d = g.H.Hosted.debugs in let s = c.args.session in let p = c.args.p.now in let q = c.leave-in-Memory.new.p in
    let old : Talk = record { answers = g.L.Link.answers c.args.link.now; sent = g.L.Link.sent c.args.link.now } in
    let mid : Talk = record { answers = g.L.Link.answers c.recv.new.self; sent = g.L.Link.sent c.recv.new.self } in
    let said : mid ≡ talks old ([]) [] =
    (λ i. record { answers = c.in-Memory.ensures.answers i; sent = (c.recv.ensures.sent ∙ adds-none old.sent) i }) in
    hears-last d s p q ([]) old mid served.Memory c.leave-in-Memory.result said (inr (refl, refl)) tt (inl refl) c.requires.free c.requires.session c.leave-in-Memory.ensures
