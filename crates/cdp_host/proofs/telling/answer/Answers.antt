use Rattle.std.proofs.Common.{◌≡◌, ap, subst, sym, ◌∙◌}
use Rattle.cdp_host_isolation.specs.Seats.{seat_of}
use Rattle.cdp_host_isolation.specs.declared.seat.Seat.TheVariants.{Attached, Left}
use Rattle.cdp_host_isolation.proofs.SeatLemmas.{put-same}
use Rattle.cdp_session.specs.Replies.{answer_of}
use Rattle.cdp_session.specs.Situations.{seen}
use Rattle.cdp_host.specs.Indexing.{IsIndexedAs}
use Rattle.cdp_host.proofs.CallLemmas.{answers-placed}
use Rattle.cdp_host.proofs.telling.answer.Goals as goal

pub returns-in-Some-clause-answers : goal.returns-in-Some-clause-answers
returns-in-Some-clause-answers g c = λ x at.
    let is = c.in-Some.ensures.some in
    answers-placed c.answer_seat.result
    (answer_of (seen g.P.Program.standing c.args.situation.now) x c.args.text.now) c.args.s c.args.seats.now _
    c.answer_seat.new.seat (is.puts c.answer_seat.new.seat) (c.answer_seat.ensures.answers x (is.is _ ∙ at))

pub returns-in-Some-clause-indexed : goal.returns-in-Some-clause-indexed
returns-in-Some-clause-indexed g c = λ x at old.
    let is = c.in-Some.ensures.some in
    let new = c.answer_seat.new.seat in
    let put = ap (seat_of c.args.s) (is.puts new)
    ∙ put-same c.args.s new c.args.seats.now (λ e. let none : Attached x ≡ Left = sym at ∙ e in absurd cc) in
    subst (λ seat. IsIndexedAs c.args.s seat c.answer_seat.new.index) (sym put)
    (c.answer_seat.ensures.indexed
    (subst (λ seat. IsIndexedAs c.args.s seat c.args.index.now) (sym (is.is _ ∙ at)) old))

pub returns-in-None-clause-indexed : goal.returns-in-None-clause-indexed
returns-in-None-clause-indexed g c = λ x at old.
    let none : Attached x ≡ Left = sym at ∙ c.in-None.ensures.none in absurd cc
