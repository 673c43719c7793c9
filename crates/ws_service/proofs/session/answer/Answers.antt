use Rattle.std.proofs.Common.{string_bytes, Some, refl, sym, subst}
use Rattle.cdp_host_turns.specs.Turns.{TellsAndTakes}
use Rattle.ws_service.specs.Sessions.{Answers, Talk}
use Rattle.ws_service.specs.declared.served.Served.{Served}
use Rattle.ws_service.proofs.SessionLemmas.{answers-end, answers-gone, answers-gone-after, answers-memory, answers-on, answers-overrun, answers-spent, answers-spent-after, owns-taken, owns-told}
use Rattle.ws_service.proofs.session.answer.Goals as goal

pub send_taken-requires-clause-session : goal.send_taken-requires-clause-session
send_taken-requires-clause-session g c =
    let d = g.H.Hosted.debugs in let s = c.args.session in let text = string_bytes c.args.text in
    let p = c.args.p.now in let m = c.tell_and_take.new.p in
    let a = subst (TellsAndTakes d s text p m) c.in-Ok-Taken.field-0-is c.in-Ok-Taken.ensures.answers in
    owns-taken d s a.0 m c.in-Ok-Taken.taken a.2 (owns-told d s p a.0 text a.1 c.requires.session)

pub returns-in-Ok-clause-answers : goal.returns-in-Ok-clause-answers
returns-in-Ok-clause-answers g c =
    let d = g.H.Hosted.debugs in let s = c.args.session in let text = string_bytes c.args.text in
    let p = c.args.p.now in let m = c.tell_and_take.new.p in
    let q = c.send_taken.new.p in
    let old : Talk = record { answers = g.L.Link.answers c.args.link.now; sent = g.L.Link.sent c.args.link.now } in
    let new : Talk = record { answers = g.L.Link.answers c.send_taken.new.link; sent = g.L.Link.sent c.send_taken.new.link } in
    let a = subst (TellsAndTakes d s text p m) c.in-Ok-Taken.field-0-is c.in-Ok-Taken.ensures.answers in
    answers-on d s p a.0 q text old new c.in-Ok.field-0 a.1 c.requires.session
    (c.in-Ok.ensures.hands a.0 a.2 (owns-told d s p a.0 text a.1 c.requires.session))

pub returns-in-Err-send_taken-clause-answers : goal.returns-in-Err-send_taken-clause-answers
returns-in-Err-send_taken-clause-answers g c =
    let d = g.H.Hosted.debugs in let s = c.args.session in let text = string_bytes c.args.text in
    let p = c.args.p.now in let m = c.tell_and_take.new.p in
    let q = c.send_taken.new.p in
    let old : Talk = record { answers = g.L.Link.answers c.args.link.now; sent = g.L.Link.sent c.args.link.now } in
    let new : Talk = record { answers = g.L.Link.answers c.send_taken.new.link; sent = g.L.Link.sent c.send_taken.new.link } in
    let a = subst (TellsAndTakes d s text p m) c.in-Ok-Taken.field-0-is c.in-Ok-Taken.ensures.answers in
    answers-end d s p a.0 q text old new c.in-Err-send_taken.end a.1 c.requires.session
    (c.in-Err-send_taken.ensures.hands a.0 a.2 (owns-told d s p a.0 text a.1 c.requires.session))

pub returns-in-Ok-Overrun-clause-answers : goal.returns-in-Ok-Overrun-clause-answers
returns-in-Ok-Overrun-clause-answers g c =
    let d = g.H.Hosted.debugs in let s = c.args.session in let text = string_bytes c.args.text in
    let p = c.args.p.now in let m = c.tell_and_take.new.p in
    let old : Talk = record { answers = g.L.Link.answers c.args.link.now; sent = g.L.Link.sent c.args.link.now } in
    let a = subst (TellsAndTakes d s text p m) c.in-Ok-Overrun.field-0-is c.in-Ok-Overrun.ensures.answers in
    answers-overrun d s p m text old old a c.requires.session refl

pub returns-in-Ok-Memory-clause-answers : goal.returns-in-Ok-Memory-clause-answers
returns-in-Ok-Memory-clause-answers g c =
    let d = g.H.Hosted.debugs in let s = c.args.session in let text = string_bytes c.args.text in
    let p = c.args.p.now in let m = c.tell_and_take.new.p in
    let old : Talk = record { answers = g.L.Link.answers c.args.link.now; sent = g.L.Link.sent c.args.link.now } in
    let a = subst (TellsAndTakes d s text p m) c.in-Ok-Memory.field-0-is c.in-Ok-Memory.ensures.answers in
    answers-memory d s p m text old old a.0 c.requires.session refl

pub returns-in-Ok-Gone-clause-answers : goal.returns-in-Ok-Gone-clause-answers
returns-in-Ok-Gone-clause-answers g c =
    let d = g.H.Hosted.debugs in let s = c.args.session in let text = string_bytes c.args.text in
    let p = c.args.p.now in let m = c.tell_and_take.new.p in
    let old : Talk = record { answers = g.L.Link.answers c.args.link.now; sent = g.L.Link.sent c.args.link.now } in
    let a = subst (TellsAndTakes d s text p m) c.in-Ok-Gone.field-0-is c.in-Ok-Gone.ensures.answers in
    subst (λ (x : Served). Answers d s p m text old old (Some x)) (sym c.end_of.ensures)
    (answers-gone d s p m text old old c.in-Ok-Gone.gone a c.requires.session refl)

pub returns-in-Ok-GoneAfter-clause-answers : goal.returns-in-Ok-GoneAfter-clause-answers
returns-in-Ok-GoneAfter-clause-answers g c =
    let d = g.H.Hosted.debugs in let s = c.args.session in let text = string_bytes c.args.text in
    let p = c.args.p.now in let m = c.tell_and_take.new.p in
    let old : Talk = record { answers = g.L.Link.answers c.args.link.now; sent = g.L.Link.sent c.args.link.now } in
    let a = subst (TellsAndTakes d s text p m) c.in-Ok-GoneAfter.field-0-is c.in-Ok-GoneAfter.ensures.answers in
    subst (λ (x : Served). Answers d s p m text old old (Some x)) (sym c.end_of-in-Ok-GoneAfter.ensures)
    (answers-gone-after d s p a.0 m text old old c.in-Ok-GoneAfter.gone a.1 a.2 c.requires.session refl)

pub returns-in-Ok-SpentAfter-clause-answers : goal.returns-in-Ok-SpentAfter-clause-answers
returns-in-Ok-SpentAfter-clause-answers g c =
    let d = g.H.Hosted.debugs in let s = c.args.session in let text = string_bytes c.args.text in
    let p = c.args.p.now in let m = c.tell_and_take.new.p in
    let old : Talk = record { answers = g.L.Link.answers c.args.link.now; sent = g.L.Link.sent c.args.link.now } in
    let a = subst (TellsAndTakes d s text p m) c.in-Ok-SpentAfter.field-0-is c.in-Ok-SpentAfter.ensures.answers in
    answers-spent-after d s c.in-Ok-SpentAfter.field-0-0.ticket p a.0 m text old old a.1 a.2 a.3 c.requires.session
    refl

pub returns-in-Err-clause-answers : goal.returns-in-Err-clause-answers
returns-in-Err-clause-answers g c =
    let d = g.H.Hosted.debugs in let s = c.args.session in let text = string_bytes c.args.text in
    let p = c.args.p.now in let m = c.tell_and_take.new.p in
    let old : Talk = record { answers = g.L.Link.answers c.args.link.now; sent = g.L.Link.sent c.args.link.now } in
    answers-spent d s c.in-Err.field-0.ticket p m text old old c.in-Err.ensures.spent c.in-Err.ensures.none c.requires.free c.requires.session refl
