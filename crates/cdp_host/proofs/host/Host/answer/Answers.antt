use Rattle.std.proofs.Common.{◌≡◌, ◌++◌, List, take, drop, length, true, ap, sym, subst, ◌∙◌}
use Rattle.cdp_host_isolation.specs.Seats.{is_attached, seat_of}
use Rattle.cdp_host_isolation.specs.declared.seat.Seat.TheVariants.{Attached}
use Rattle.cdp_session.specs.Replies.{AnsweredText, answer_of}
use Rattle.cdp_session.specs.Sessions.{Session}
use Rattle.cdp_session.specs.Situations.{Situation}
use Rattle.cdp_host.specs.Hosts.{AreLines, HostState, machine_standing, parts_standing}
use Rattle.cdp_host.specs.Indexing.{IsIndexedAs}
use Rattle.cdp_host.specs.Protocols.{situation}
use Rattle.cdp_host.specs.Watching.{AnswersIn}
use Rattle.cdp_host.proofs.CallLemmas.{answer-fit, answer-indexed, answers-back, sound-seats, whose, works-at}
use Rattle.cdp_host.proofs.ViewLemmas.{seen_as}
use Rattle.cdp_host.proofs.host.Host.answer.Goals as goal

pub invariant_of-program : goal.invariant_of-program
invariant_of-program c =
    let a = c.self.inside in
    let held : is_attached (seat_of c.args.s a.seats.items) ≡ true = subst
    (λ o. is_attached (seat_of c.args.s o.meaning.seats) ≡ true) (sym c.self.view_is) c.requires in
    let Q : List (List _) → Type 0 = λ ls. AreLines a.scripts.now ls in
    record {
      located = subst Q (sym c.as_slice.ensures.value) c.self.invariant.lines;
      kept = c.self.invariant.kept (works-at c.args.s a.broken a.seats.items c.self.invariant.alone held);
    }

pub invariant_of-self : goal.invariant_of-self
invariant_of-self c =
    let a = c.self.inside in
    let held : is_attached (seat_of c.args.s a.seats.items) ≡ true = subst
    (λ o. is_attached (seat_of c.args.s o.meaning.seats) ≡ true) (sym c.self.view_is) c.requires in
    let it = whose (seat_of c.args.s a.seats.items) held in
    let there : seat_of c.args.s c.as_mut_slice.result.now ≡ Attached it.0 =
    ap (seat_of c.args.s) c.as_mut_slice.ensures.value ∙ it.1 in
    let rest = drop (length c.answer.new.seats) a.seats.items in
    let answer : AnsweredText = answer_of
    (record { scripts = a.scripts.now; paused = a.stop; standing = machine_standing a.scripts.now a.machine a.heap })
    it.0 c.args.text.now in
    let B : Situation → Type 0 = λ seen.
    AnswersIn c.answer.result (answer_of seen it.0 c.args.text.now) c.args.s c.as_mut_slice.result.now
    c.answer.new.seats in
    sound-seats a.scripts.now a.shared a.lines.items a.spots a.machine a.broken a.seats.items
    (take a.seats.len (c.answer.new.seats ++ rest)) a.seats.len a.index c.answer.new.index a.fallback a.fallen.items
    c.self.invariant
    (works-at c.args.s a.broken a.seats.items c.self.invariant.alone held)
    (answer-fit a.scripts.now c.answer.result answer c.args.s a.seats.items
    (take a.seats.len (c.answer.new.seats ++ rest))
    (answers-back c.answer.result answer
    a.seats.len c.args.s a.seats.items c.as_mut_slice.result.now c.answer.new.seats rest
    c.as_mut_slice.ensures.value (sym c.as_mut_slice.ensures.len)
    (subst B c.situation_of-situation.ensures.seen
    (c.answer.ensures.answers it.0 there)))
    c.self.invariant.fit)
    (answer-indexed c.answer.result answer a.seats.len c.args.s a.seats.items c.as_mut_slice.result.now
    c.answer.new.seats rest a.index c.answer.new.index c.as_mut_slice.ensures.value (sym c.as_mut_slice.ensures.len)
    (subst B c.situation_of-situation.ensures.seen (c.answer.ensures.answers it.0 there))
    (c.answer.ensures.indexed it.0 there
    (subst (λ seat. IsIndexedAs c.args.s seat a.index) it.1 (c.self.invariant.indexed.exact c.args.s)))
    c.answer.ensures.others c.self.invariant.indexed)

pub returns-clause-answers : goal.returns-clause-answers
returns-clause-answers c =
    let a = c.self.inside in
    let h : HostState = seen_as a in
    let rest = drop (length c.answer.new.seats) a.seats.items in
    let news = take a.seats.len (c.answer.new.seats ++ rest) in
    let f : Session
    → AnsweredText = λ x. answer_of
    (record { scripts = a.scripts.now; paused = a.stop; standing = machine_standing a.scripts.now a.machine a.heap })
    x c.args.text.now in
    let A : HostState → Type 0 = λ o. (x : Session) → seat_of c.args.s o.meaning.seats ≡ Attached x
    → AnswersIn c.answer.result
    (answer_of (situation o.scripts o.meaning.stop (parts_standing o.scripts o.meaning.program)) x c.args.text.now)
    c.args.s o.meaning.seats news in
    let here : A h = λ x is.
    let B : Situation → Type 0 = λ seen.
    AnswersIn c.answer.result (answer_of seen x c.args.text.now) c.args.s c.as_mut_slice.result.now
    c.answer.new.seats in
    answers-back c.answer.result (f x)
    a.seats.len c.args.s a.seats.items c.as_mut_slice.result.now c.answer.new.seats rest
    c.as_mut_slice.ensures.value (sym c.as_mut_slice.ensures.len)
    (subst B c.situation_of-situation.ensures.seen
    (c.answer.ensures.answers x (ap (seat_of c.args.s) c.as_mut_slice.ensures.value ∙ is))) in
    subst A c.self.view_is here

pub returns-clause-works : goal.returns-clause-works
returns-clause-works c =
    let a = c.self.inside in
    let held : is_attached (seat_of c.args.s a.seats.items) ≡ true = subst
    (λ o. is_attached (seat_of c.args.s o.meaning.seats) ≡ true) (sym c.self.view_is) c.requires in
    ap (λ o. o.broken) (sym c.self.view_is) ∙ works-at c.args.s a.broken a.seats.items c.self.invariant.alone held
