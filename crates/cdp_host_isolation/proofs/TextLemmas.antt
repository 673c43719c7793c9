-- A session is handed the texts that are made for it, in order.
use Rattle.std.proofs.Common.{◌≡◌, ◌<◌, ℕ, zero, suc, ◌+◌, List, [], ◌∷◌, ◌++◌, length, Bool, true, false, ◌==◌, if◌then◌else◌, fold, None, refl, ap, sym, subst, ◌∙◌, arith, append_assoc, append-nil}
use Rattle.std.proofs.lemmas.Bool.{eqb-true}
use Rattle.cdp_host_isolation.specs.Seats.{each, fallen, lost_by, put, put_in, reported, seat_in, seat_of, some, without, without_from}
use Rattle.cdp_host_isolation.specs.Protocols.{Protocol}
use Rattle.cdp_host_isolation.specs.Meanings.{Meaning, after_run, after_steps, begin, is_enabled_seat, is_named, is_paused, kept, next_number, resume, resumed_seat, seat_behind, settle, step, survives, told_at, told_of, with_seats, woken}
use Rattle.cdp_host_isolation.specs.Histories.{Entry, Attach, Tell, Take, Detach, Ran, Shut, FitsAll, FitsEntry, apply, asked, detach, handed_at, handed_of, ran, take, tell, waiting, whole, with_seat}
use Rattle.cdp_host_isolation.specs.Alone.{Alone, Seen, Came, Told, Took, Went, Passed, Resumed, alone_at, given, goes_on, has_resumed, mark, one_step, passing, replied, run, see, solo, took, unborn, unless_listed, view, view_at, went}
use Rattle.cdp_host_isolation.specs.Texts.{AreSent, Keeps, Texts, made_at, made_of, passing_texts, reply_texts, resume_texts, run_texts, step_texts}
use Rattle.cdp_host_isolation.specs.declared.seat.Loss.TheVariants.{Overrun}
use Rattle.cdp_host_isolation.specs.declared.seat.Seat.{Seat}
use Rattle.cdp_host_isolation.specs.declared.seat.Seat.TheVariants.{Attached, Lost, Left}
use Rattle.cdp_host_isolation.proofs.AloneLemmas.{Follows, follows, see_all, unborn-at, with_report}

-- ---- lists of texts

lost-rest : (handed outs made more : List (List ℕ)) → handed ++ outs ≡ made
    → (rest : List (List ℕ)) × (made ++ more ≡ handed ++ rest)
lost-rest handed outs made more is = (outs ++ more, ap (λ l. l ++ more) (sym is) ∙ append_assoc handed outs more)

rest-more : (handed made more : List (List ℕ)) → (rest : List (List ℕ)) × (made ≡ handed ++ rest)
    → (rest : List (List ℕ)) × (made ++ more ≡ handed ++ rest)
rest-more handed made more p = (p.0 ++ more, ap (λ l. l ++ more) p.1 ∙ append_assoc handed p.0 more)

here-more : (handed outs made more new : List (List ℕ)) → handed ++ outs ≡ made → new ≡ outs ++ more
    → handed ++ new ≡ made ++ more
here-more handed outs made more new is grows =
    ap (λ l. handed ++ l) grows ∙ sym (append_assoc handed outs more) ∙ ap (λ l. l ++ more) is

-- ---- one seat

kept-keeps : {C T Q X : Type 0} → (P : Protocol C T Q X) (handed made : List (List ℕ)) (y : X) (b : Bool)
    → handed ++ P.outbox y ≡ made
    → Keeps P handed (if b then Attached y else lost_by Overrun) made
kept-keeps P handed made y true is = is
kept-keeps P handed made y false is = (P.outbox y, sym is)

left-keeps : {C T Q X : Type 0} → (P : Protocol C T Q X) (handed made : List (List ℕ)) (y : X) (b : Bool)
    → handed ++ P.outbox y ≡ made
    → Keeps P handed (if b then Attached y else Left) made
left-keeps P handed made y true is = is
left-keeps P handed made y false is = (P.outbox y, sym is)

-- nothing more is made
same-keeps : {C T Q X : Type 0} → (P : Protocol C T Q X) (handed made : List (List ℕ)) (seat : Seat X)
    → Keeps P handed seat made
    → Keeps P handed seat (made ++ [])
same-keeps P handed made seat keeps = subst (λ l. Keeps P handed seat l) (sym (append-nil made)) keeps

-- a resume
goes-keeps : {C T Q X : Type 0} → (P : Protocol C T Q X) (E : Texts P) → AreSent P E
    → (resumed : Bool) (handed made : List (List ℕ))
    (a : Alone C Q X) → Keeps P handed a.seat made
    → Keeps P handed (goes_on P resumed a).seat (made ++ resume_texts P E resumed a.seat)
goes-keeps P E sent true handed made a keeps = resumed-keeps P E sent handed made a.seat keeps
  where
    resumed-keeps : {C T Q X : Type 0}
        → (P : Protocol C T Q X) (E : Texts P)
        → AreSent P E
        → (handed made : List (List ℕ)) (seat : Seat X)
        → Keeps P handed seat made → Keeps P handed (resumed_seat P seat) (made ++ resume_texts P E true seat)
    resumed-keeps P E sent handed made (Attached x) keeps =
        kept-keeps P handed (made ++ E.resumed x) (P.resumed x) (P.fits (P.resumed x))
        (here-more handed (P.outbox x) made (E.resumed x) (P.outbox (P.resumed x)) keeps (sent.resumed x))
    resumed-keeps P E sent handed made (Lost loss is_reported is_told) keeps = rest-more handed made [] keeps
    resumed-keeps P E sent handed made Left keeps = rest-more handed made [] keeps
goes-keeps P E sent false handed made a keeps = same-keeps P handed made a.seat keeps

-- a text, whose reply fits or doesn't, and a resume with it
reply-goes : {C T Q X : Type 0} → (P : Protocol C T Q X) (E : Texts P) → AreSent P E
    → (handed made texts : List (List ℕ)) (y : X) (b : Bool)
    → handed ++ P.outbox y ≡ made ++ texts
    → Keeps P handed (resumed_seat P (if b then Attached y else Left)) (made ++ (texts ++ E.resumed y))
reply-goes P E sent handed made texts y true is =
    subst (λ l. Keeps P handed (kept P (P.resumed y)) l) (append_assoc made texts (E.resumed y))
    (kept-keeps P handed (made ++ texts ++ E.resumed y) (P.resumed y) (P.fits (P.resumed y))
    (here-more handed (P.outbox y) (made ++ texts) (E.resumed y) (P.outbox (P.resumed y)) is (sent.resumed y)))
reply-goes P E sent handed made texts y false is =
    subst (λ l. Keeps P handed Left l) (append_assoc made texts (E.resumed y))
    (lost-rest handed (P.outbox y) (made ++ texts) (E.resumed y) is)

told-goes : {C T Q X : Type 0} → (P : Protocol C T Q X) (E : Texts P) → AreSent P E
    → (text : List ℕ) (handed made : List (List ℕ))
    (a : Alone C Q X) (seat : Seat X) → Keeps P handed seat made
    → Keeps P handed (resumed_seat P (replied P text a seat)) (made ++ reply_texts P E text true a seat)
told-goes P E sent text handed made a (Attached x) keeps =
    let y = P.reply a.stop a.program text x in
    let new = E.reply a.stop a.program text x in
    reply-goes P E sent handed made new y (P.fits y)
    (here-more handed (P.outbox x) made new (P.outbox y) keeps (sent.reply a.stop a.program text x))
told-goes P E sent text handed made a (Lost loss is_reported is_told) keeps = rest-more handed made [] keeps
told-goes P E sent text handed made a Left keeps = rest-more handed made [] keeps

told-stays : {C T Q X : Type 0} → (P : Protocol C T Q X) (E : Texts P) → AreSent P E
    → (text : List ℕ) (handed made : List (List ℕ))
    (a : Alone C Q X) (seat : Seat X) → Keeps P handed seat made
    → Keeps P handed (replied P text a seat) (made ++ reply_texts P E text false a seat)
told-stays P E sent text handed made a (Attached x) keeps =
    let y = P.reply a.stop a.program text x in
    let new = E.reply a.stop a.program text x in
    left-keeps P handed (made ++ (new ++ [])) y (P.fits y)
    (here-more handed (P.outbox x) made (new ++ []) (P.outbox y) keeps
    (sent.reply a.stop a.program text x ∙ ap (λ l. P.outbox x ++ l) (sym (append-nil new))))
told-stays P E sent text handed made a (Lost loss is_reported is_told) keeps = rest-more handed made [] keeps
told-stays P E sent text handed made a Left keeps = rest-more handed made [] keeps

-- the taking of its texts
took-keeps : {C T Q X : Type 0} → (P : Protocol C T Q X) (E : Texts P) → AreSent P E
    → (handed made : List (List ℕ)) (seat : Seat X)
    → Keeps P handed seat made → Keeps P (handed ++ waiting P seat) (took P seat) (made ++ [])
took-keeps P E sent handed made (Attached x) keeps =
    ap (λ l. handed ++ P.outbox x ++ l) (sent.emptied x) ∙ ap (λ l. l ++ []) keeps
took-keeps P E sent handed made (Lost loss is_reported is_told) keeps =
    rw (append-nil handed) (rest-more handed made [] keeps)
took-keeps P E sent handed made Left keeps = rw (append-nil handed) (rest-more handed made [] keeps)

-- a detach
went-keeps : {C T Q X : Type 0} → (P : Protocol C T Q X) (handed made : List (List ℕ)) (seat : Seat X)
    → Keeps P handed seat made
    → Keeps P handed (went seat) (made ++ [])
went-keeps P handed made (Attached x) keeps = lost-rest handed (P.outbox x) made [] keeps
went-keeps P handed made (Lost loss is_reported is_told) keeps = rest-more handed made [] keeps
went-keeps P handed made Left keeps = rest-more handed made [] keeps

went-goes : {C T Q X : Type 0} → (P : Protocol C T Q X) (handed made : List (List ℕ)) (seat : Seat X)
    → Keeps P handed seat made
    → Keeps P handed (resumed_seat P (went seat)) (made ++ [])
went-goes P handed made (Attached x) keeps = lost-rest handed (P.outbox x) made [] keeps
went-goes P handed made (Lost loss is_reported is_told) keeps = rest-more handed made [] keeps
went-goes P handed made Left keeps = rest-more handed made [] keeps

-- ---- steps

fallen-keeps : {C T Q X : Type 0} → (P : Protocol C T Q X) (handed made : List (List ℕ)) (seat : Seat X)
    → Keeps P handed seat made
    → Keeps P handed (fallen seat) made
fallen-keeps P handed made (Attached x) keeps = (P.outbox x, sym keeps)
fallen-keeps P handed made (Lost loss is_reported is_told) keeps = keeps
fallen-keeps P handed made Left keeps = keeps

listed-keeps : {C T Q X : Type 0}
    → (P : Protocol C T Q X) (handed made : List (List ℕ)) (listed : Bool) (a : Alone C Q X)
    → Keeps P handed a.seat made → Keeps P handed (unless_listed listed a).seat made
listed-keeps P handed made true a keeps = fallen-keeps P handed made a.seat keeps
listed-keeps P handed made false a keeps = keeps

reported-keeps : {C T Q X : Type 0} → (P : Protocol C T Q X) (handed made : List (List ℕ)) (seat : Seat X)
    → Keeps P handed seat made
    → Keeps P handed (reported seat) made
reported-keeps P handed made (Attached x) keeps = keeps
reported-keeps P handed made (Lost loss is_reported is_told) keeps = keeps
reported-keeps P handed made Left keeps = keeps

-- behind a step that an attached session survives, or doesn't
behind-keeps : {C T Q X : Type 0} → (P : Protocol C T Q X) (E : Texts P) → AreSent P E
    → (stops : Bool) (number moment : ℕ) (t : T) (x : X)
    (handed made : List (List ℕ)) (b : Bool) → handed ++ P.outbox x ≡ made
    → Keeps P handed (if b then told_of P stops number moment t x else lost_by Overrun)
    (made ++ (E.told moment t x ++ (if stops then E.stopped number t (P.told moment t x) else [])))
behind-keeps P E sent stops number moment t x handed made false is =
    lost-rest handed (P.outbox x) made
    (E.told moment t x ++ (if stops then E.stopped number t (P.told moment t x) else [])) is
behind-keeps P E sent true number moment t x handed made true is =
    let y = P.told moment t x in
    let new = E.stopped number t y in
    kept-keeps P handed (made ++ (E.told moment t x ++ new)) (P.stopped number t y) (P.fits (P.stopped number t y))
    (here-more handed (P.outbox x) made (E.told moment t x ++ new) (P.outbox (P.stopped number t y)) is
    (sent.stopped number t y
    ∙ ap (λ l. l ++ new) (sent.told moment t x)
    ∙ append_assoc (P.outbox x) (E.told moment t x) new))
behind-keeps P E sent false number moment t x handed made true is =
    let new = E.told moment t x in
    here-more handed (P.outbox x) made (new ++ []) (P.outbox (P.told moment t x)) is
    (sent.told moment t x ∙ ap (λ l. P.outbox x ++ l) (sym (append-nil new)))

step-keeps : {C T Q X : Type 0} → (P : Protocol C T Q X) (E : Texts P) → AreSent P E
    → (moment : ℕ) (stops : Bool) (handed made : List (List ℕ))
    (a : Alone C Q X) (seat : Seat X) → Keeps P handed seat made
    → Keeps P handed (seat_behind P stops (next_number a.stops) moment (P.tells a.first a.program) seat)
    (made ++ step_texts P E moment stops a seat)
step-keeps P E sent moment stops handed made a (Attached x) keeps =
    let t = P.tells a.first a.program in
    behind-keeps P E sent stops (next_number a.stops) moment t x handed made
    (survives P (next_number a.stops) moment t x) keeps
step-keeps P E sent moment stops handed made a (Lost loss is_reported is_told) keeps = rest-more handed made [] keeps
step-keeps P E sent moment stops handed made a Left keeps = rest-more handed made [] keeps

passing-keeps : {C T Q X : Type 0} → (P : Protocol C T Q X) (E : Texts P) → AreSent P E
    → (moment n : ℕ) (handed made : List (List ℕ))
    (a : Alone C Q X) → Keeps P handed a.seat made
    → Keeps P handed (passing P moment n a).seat (made ++ passing_texts P E moment n a)
passing-keeps P E sent moment zero handed made a keeps = same-keeps P handed made a.seat keeps
passing-keeps P E sent moment (suc n) handed made a keeps =
    let b = one_step P moment false a in
    let new = step_texts P E moment false a a.seat in
    subst (λ l. Keeps P handed (passing P moment n b).seat l) (append_assoc made new (passing_texts P E moment n b))
    (passing-keeps P E sent moment n handed (made ++ new) b
    (step-keeps P E sent moment false handed made a a.seat keeps))

run-keeps : {C T Q X : Type 0} → (P : Protocol C T Q X) (E : Texts P) → AreSent P E
    → (moment n : ℕ) (stops listed : Bool)
    (handed made : List (List ℕ)) (a : Alone C Q X) → Keeps P handed a.seat made
    → Keeps P handed (run P moment n stops listed a).seat (made ++ run_texts P E moment n stops listed a)
run-keeps P E sent moment zero stops listed handed made a keeps =
    same-keeps P handed made (unless_listed listed a).seat (listed-keeps P handed made listed a keeps)
run-keeps P E sent moment (suc n) stops listed handed made a keeps =
    let b = unless_listed listed (passing P moment n a) in
    let before = passing_texts P E moment n a in
    subst (λ l. Keeps P handed (one_step P moment stops b).seat l)
    (append_assoc made before (step_texts P E moment stops b b.seat))
    (step-keeps P E sent moment stops handed (made ++ before) b b.seat
    (listed-keeps P handed (made ++ before) listed (passing P moment n a)
    (passing-keeps P E sent moment n handed made a keeps)))

-- ---- what a session sees, but its coming

abbrev is_other : Seen → Bool
is_other Came = false
is_other (Told text resumed) = true
is_other Took = true
is_other (Went resumed) = true
is_other (Passed n moment stops listed resumed) = true
is_other Resumed = true

abbrev AllOther : List Seen → Type 0
AllOther [] = Unit {0}
AllOther (seen ∷ view) = (is_other seen ≡ true) × AllOther view

-- the same with nothing handed out
not-handed : {C T Q X : Type 0} → (P : Protocol C T Q X) (handed made : List (List ℕ)) (seat : Seat X)
    → Keeps P handed seat made
    → Keeps P (handed ++ []) seat made
not-handed P handed made seat keeps = subst (λ l. Keeps P l seat made) (sym (append-nil handed)) keeps

reported-texts : {C T Q X : Type 0} → (P : Protocol C T Q X) (E : Texts P) (resumed : Bool) (seat : Seat X)
    → resume_texts P E resumed (reported seat) ≡ resume_texts P E resumed seat
reported-texts P E true (Attached x) = refl
reported-texts P E true (Lost loss is_reported is_told) = refl
reported-texts P E true Left = refl
reported-texts P E false seat = refl

passed-keeps : {C T Q X : Type 0} → (P : Protocol C T Q X) (E : Texts P) → AreSent P E
    → (n moment : ℕ) (stops listed resumed : Bool)
    (handed made : List (List ℕ)) (a : Alone C Q X) → Keeps P handed a.seat made
    → Keeps P handed (goes_on P resumed (with_report (run P moment n stops listed a))).seat
    (made ++ (run_texts P E moment n stops listed a ++ resume_texts P E resumed (run P moment n stops listed a).seat))
passed-keeps P E sent n moment stops listed resumed handed made a keeps =
    let b = run P moment n stops listed a in
    let new = run_texts P E moment n stops listed a in
    let last = goes_on P resumed (with_report b) in
    subst (λ l. Keeps P handed last.seat l)
    (ap (λ l. made ++ new ++ l) (reported-texts P E resumed b.seat)
    ∙ append_assoc made new (resume_texts P E resumed b.seat))
    (goes-keeps P E sent resumed handed (made ++ new) (with_report b)
    (reported-keeps P handed (made ++ new) b.seat (run-keeps P E sent moment n stops listed handed made a keeps)))

seen-keeps : {C T Q X : Type 0} → (P : Protocol C T Q X) (E : Texts P) → AreSent P E
    → (s : ℕ) (handed made : List (List ℕ))
    (a : Alone C Q X) (seen : Seen) → is_other seen ≡ true → Keeps P handed a.seat made
    → Keeps P (handed ++ given P a seen) (see P s a seen).seat (made ++ made_at P E a seen)
seen-keeps P E sent s handed made a Came other keeps = cc
seen-keeps P E sent s handed made a (Told text true) other keeps =
    not-handed P handed _ _ (told-goes P E sent text handed made a a.seat keeps)
seen-keeps P E sent s handed made a (Told text false) other keeps =
    not-handed P handed _ _ (told-stays P E sent text handed made a a.seat keeps)
seen-keeps P E sent s handed made a Took other keeps = took-keeps P E sent handed made a.seat keeps
seen-keeps P E sent s handed made a (Went true) other keeps =
    not-handed P handed _ _ (went-goes P handed made a.seat keeps)
seen-keeps P E sent s handed made a (Went false) other keeps =
    not-handed P handed _ _ (went-keeps P handed made a.seat keeps)
seen-keeps P E sent s handed made a (Passed n moment stops listed resumed) other keeps =
    not-handed P handed _ _ (passed-keeps P E sent n moment stops listed resumed handed made a keeps)
seen-keeps P E sent s handed made a Resumed other keeps =
    not-handed P handed _ _ (goes-keeps P E sent true handed made a keeps)

made_of-append : {C T Q X : Type 0}
    → (P : Protocol C T Q X) (E : Texts P) (s : ℕ) (a : Alone C Q X) (xs ys : List Seen)
    → made_of P E s a (xs ++ ys) ≡ made_of P E s a xs ++ made_of P E s (see_all P s a xs) ys
made_of-append P E s a [] ys = refl
made_of-append P E s a (x ∷ xs) ys =
    ap (λ rest. made_at P E a x ++ rest) (made_of-append P E s (see P s a x) xs ys)
    ∙ sym (append_assoc (made_at P E a x) _ _)

view-keeps : {C T Q X : Type 0} → (P : Protocol C T Q X) (E : Texts P) → AreSent P E
    → (s : ℕ) (handed made : List (List ℕ))
    (a : Alone C Q X) (xs : List Seen) → AllOther xs → Keeps P handed a.seat made
    → Keeps P (handed ++ solo P s a xs) (see_all P s a xs).seat (made ++ made_of P E s a xs)
view-keeps P E sent s handed made a [] other keeps = not-handed P handed _ _ (same-keeps P handed made a.seat keeps)
view-keeps P E sent s handed made a (x ∷ xs) other keeps =
    let b = see P s a x in
    let last = see_all P s b xs in
    subst (λ l. Keeps P l last.seat (made ++ (made_at P E a x ++ made_of P E s b xs)))
    (append_assoc handed (given P a x) (solo P s b xs))
    (subst (λ l. Keeps P (handed ++ given P a x ++ solo P s b xs) last.seat l)
    (append_assoc made (made_at P E a x) (made_of P E s b xs))
    (view-keeps P E sent s (handed ++ given P a x) (made ++ made_at P E a x) b xs other.1
    (seen-keeps P E sent s handed made a x other.0 keeps)))

-- ---- a session that isn't there

-- nothing is handed out to it or made for it, and it doesn't come by itself
record StaysAway {C T Q X : Type 0} (P : Protocol C T Q X) (E : Texts P) (s : ℕ) (a : Alone C Q X) (seen : Seen)
    : Type 0 where
  pub away : (see P s a seen).seat ≡ Left
  pub gives : given P a seen ≡ []
  pub makes : made_at P E a seen ≡ []

unless-away : {C Q X : Type 0} → (listed : Bool) (a : Alone C Q X) → a.seat ≡ Left
    → (unless_listed listed a).seat ≡ Left
unless-away true a is = ap (λ seat. fallen seat) is
unless-away false a is = is

step-away : {C T Q X : Type 0} → (P : Protocol C T Q X) (moment : ℕ) (stops : Bool) (a : Alone C Q X) → a.seat ≡ Left
    → (one_step P moment stops a).seat ≡ Left
step-away P moment stops a is =
    ap (λ seat. seat_behind P stops (next_number a.stops) moment (P.tells a.first a.program) seat) is

passing-away : {C T Q X : Type 0} → (P : Protocol C T Q X) (moment n : ℕ) (a : Alone C Q X) → a.seat ≡ Left
    → (passing P moment n a).seat ≡ Left
passing-away P moment zero a is = is
passing-away P moment (suc n) a is = passing-away P moment n (one_step P moment false a) (step-away P moment false a is)

run-away : {C T Q X : Type 0} → (P : Protocol C T Q X) (moment n : ℕ) (stops listed : Bool) (a : Alone C Q X)
    → a.seat ≡ Left
    → (run P moment n stops listed a).seat ≡ Left
run-away P moment zero stops listed a is = unless-away listed a is
run-away P moment (suc n) stops listed a is =
    step-away P moment stops (unless_listed listed (passing P moment n a))
    (unless-away listed (passing P moment n a) (passing-away P moment n a is))

step-silent : {C T Q X : Type 0} → (P : Protocol C T Q X) (E : Texts P) (moment : ℕ) (stops : Bool) (a : Alone C Q X)
    → a.seat ≡ Left
    → step_texts P E moment stops a a.seat ≡ []
step-silent P E moment stops a is = ap (λ seat. step_texts P E moment stops a seat) is

pub both-none : (xs ys : List (List ℕ)) → xs ≡ [] → ys ≡ [] → xs ++ ys ≡ []
both-none xs ys none none_more = ap (λ l. l ++ ys) none ∙ none_more

passing-silent : {C T Q X : Type 0} → (P : Protocol C T Q X) (E : Texts P) (moment n : ℕ) (a : Alone C Q X)
    → a.seat ≡ Left
    → passing_texts P E moment n a ≡ []
passing-silent P E moment zero a is = refl
passing-silent P E moment (suc n) a is =
    both-none (step_texts P E moment false a a.seat) _ (step-silent P E moment false a is)
    (passing-silent P E moment n (one_step P moment false a) (step-away P moment false a is))

run-silent : {C T Q X : Type 0}
    → (P : Protocol C T Q X) (E : Texts P) (moment n : ℕ) (stops listed : Bool) (a : Alone C Q X) → a.seat ≡ Left
    → run_texts P E moment n stops listed a ≡ []
run-silent P E moment zero stops listed a is = refl
run-silent P E moment (suc n) stops listed a is =
    both-none (passing_texts P E moment n a) _ (passing-silent P E moment n a is)
    (step-silent P E moment stops (unless_listed listed (passing P moment n a))
    (unless-away listed (passing P moment n a) (passing-away P moment n a is)))

resume-silent : {C T Q X : Type 0} → (P : Protocol C T Q X) (E : Texts P) (resumed : Bool)
    → resume_texts P E resumed Left ≡ []
resume-silent P E true = refl
resume-silent P E false = refl

goes-away : {C T Q X : Type 0} → (P : Protocol C T Q X) (resumed : Bool) (a : Alone C Q X) → a.seat ≡ Left
    → (goes_on P resumed a).seat ≡ Left
goes-away P true a is = ap (λ seat. resumed_seat P seat) is
goes-away P false a is = is

stays-away : {C T Q X : Type 0} → (P : Protocol C T Q X) (E : Texts P) (s : ℕ) (a : Alone C Q X) (seen : Seen)
    → is_other seen ≡ true → a.seat ≡ Left
    → StaysAway P E s a seen
stays-away P E s a Came other is = cc
stays-away P E s a (Told text resumed) other is = record {
  away = goes-away P resumed (record a { seat = replied P text a a.seat }) (ap (λ seat. replied P text a seat) is);
  gives = refl;
  makes = ap (λ seat. reply_texts P E text resumed a seat) is;
}
stays-away P E s a Took other is = record {
  away = ap (λ seat. took P seat) is;
  gives = ap (λ seat. waiting P seat) is;
  makes = refl;
}
stays-away P E s a (Went resumed) other is = record {
  away = goes-away P resumed (record a { seat = went a.seat }) (ap (λ seat. went seat) is);
  gives = refl;
  makes = refl;
}
stays-away P E s a (Passed n moment stops listed resumed) other is =
    let b = run P moment n stops listed a in
    let gone = run-away P moment n stops listed a is in
    record {
      away = goes-away P resumed (with_report b) (ap (λ seat. reported seat) gone);
      gives = refl;
      makes = both-none (run_texts P E moment n stops listed a) _ (run-silent P E moment n stops listed a is)
          (ap (λ seat. resume_texts P E resumed seat) gone ∙ resume-silent P E resumed);
    }
stays-away P E s a Resumed other is = record {
  away = goes-away P true a is;
  gives = refl;
  makes = ap (λ seat. resume_texts P E true seat) is;
}

view-away : {C T Q X : Type 0} → (P : Protocol C T Q X) (E : Texts P) (s : ℕ) (a : Alone C Q X) (xs : List Seen)
    → AllOther xs → a.seat ≡ Left
    → (solo P s a xs ≡ []) × (made_of P E s a xs ≡ [])
view-away P E s a [] other is = (refl, refl)
view-away P E s a (x ∷ xs) other is =
    let one = stays-away P E s a x other.0 is in
    let rest = view-away P E s (see P s a x) xs other.1 one.away in
    (both-none (given P a x) _ one.gives rest.0, both-none (made_at P E a x) _ one.makes rest.1)

-- ---- how many sessions there were

pub each-length : {X : Type 0} → (f : Seat X → Seat X) (seats : List (Seat X)) → length (each f seats) ≡ length seats
each-length f [] = refl
each-length f (seat ∷ seats) = ap (λ n. suc n) (each-length f seats)

pub put-in-length : {X : Type 0} → (i : ℕ) (new : Seat X) (seats : List (Seat X))
    → length (put_in i new seats) ≡ length seats
put-in-length i new [] = refl
put-in-length zero new (seat ∷ seats) = refl
put-in-length (suc i) new (seat ∷ seats) = ap (λ n. suc n) (put-in-length i new seats)

pub put-length : {X : Type 0} → (s : ℕ) (new : Seat X) (seats : List (Seat X)) → length (put s new seats) ≡ length seats
put-length zero new seats = refl
put-length (suc i) new seats = put-in-length i new seats

pub without-length : {X : Type 0} → (gone : List ℕ) (s : ℕ) (seats : List (Seat X))
    → length (without_from gone s seats) ≡ length seats
without-length gone s [] = refl
without-length gone s (seat ∷ seats) = ap (λ n. suc n) (without-length gone (s + 1) seats)

pub append-length : {X : Type 0} → (new : Seat X) (seats : List (Seat X)) → length (seats ++ new ∷ []) ≡ suc (length seats)
append-length new [] = refl
append-length new (seat ∷ seats) = ap (λ n. suc n) (append-length new seats)

resumed-length : {C T Q X : Type 0} → (P : Protocol C T Q X) (m : Meaning C Q X) (b : Bool)
    → length (if b then record m { stop = None; seats = each (resumed_seat P) m.seats } else m).seats ≡ length m.seats
resumed-length P m true = each-length (resumed_seat P) m.seats
resumed-length P m false = refl

resume-length : {C T Q X : Type 0} → (P : Protocol C T Q X) (m : Meaning C Q X)
    → length (resume P m).seats ≡ length m.seats
resume-length P m = resumed-length P m (is_paused m)

settled-length : {C T Q X : Type 0} → (P : Protocol C T Q X) (m : Meaning C Q X) (b : Bool)
    → length (if b then m else resume P m).seats ≡ length m.seats
settled-length P m true = refl
settled-length P m false = resume-length P m

settle-length : {C T Q X : Type 0} → (P : Protocol C T Q X) (m : Meaning C Q X)
    → length (settle P m).seats ≡ length m.seats
settle-length P m = settled-length P m (some (is_enabled_seat P) m.seats)

asked-length : {C T Q X : Type 0} → (P : Protocol C T Q X) (m : Meaning C Q X) (resumes wakes : Bool)
    → length (asked P resumes wakes m).seats ≡ length m.seats
asked-length P m true wakes = resume-length P m
asked-length P m false true = settle-length P (record m { phase = woken m.phase })
asked-length P m false false = settle-length P m

told-length : {C T Q X : Type 0}
    → (P : Protocol C T Q X) (s : ℕ) (m : Meaning C Q X) (resumes wakes : Bool) (y : X) (b : Bool)
    → length (if b then asked P resumes wakes (with_seat s (Attached y) m) else settle P (with_seat s Left m)).seats
    ≡ length m.seats
told-length P s m resumes wakes y true =
    asked-length P (with_seat s (Attached y) m) resumes wakes ∙ put-length s (Attached y) m.seats
told-length P s m resumes wakes y false = settle-length P (with_seat s Left m) ∙ put-length s Left m.seats

pub tell-length : {C T Q X : Type 0} → (P : Protocol C T Q X) (s : ℕ) (text : List ℕ) (m : Meaning C Q X) (seat : Seat X)
    → length (tell P s text m seat).seats ≡ length m.seats
tell-length P s text m (Attached x) =
    let y = P.reply m.stop m.program text x in
    told-length P s m (P.resumes m.stop m.program text x) (P.wakes m.stop m.program text x) y (P.fits y)
tell-length P s text m (Lost loss is_reported is_told) = refl
tell-length P s text m Left = refl

pub take-length : {C T Q X : Type 0} → (P : Protocol C T Q X) (s : ℕ) (m : Meaning C Q X) (seat : Seat X)
    → length (take P s m seat).seats ≡ length m.seats
take-length P s m (Attached x) = put-length s (Attached (P.emptied x)) m.seats
take-length P s m (Lost loss is_reported is_told) = refl
take-length P s m Left = refl

pub detach-length : {C T Q X : Type 0} → (P : Protocol C T Q X) (s : ℕ) (m : Meaning C Q X) (seat : Seat X)
    → length (detach P s m seat).seats ≡ length m.seats
detach-length P s m (Attached x) = settle-length P (with_seat s Left m) ∙ put-length s Left m.seats
detach-length P s m (Lost loss is_reported is_told) = put-length s (Lost loss is_reported true) m.seats
detach-length P s m Left = refl

step-length : {C T Q X : Type 0} → (P : Protocol C T Q X) (moment : ℕ) (gone : List ℕ) (m : Meaning C Q X)
    → length (step P moment gone m).seats ≡ length m.seats
step-length P moment gone m =
    let f : Seat _
    → Seat _ = seat_behind P (is_named P moment gone m.program m) (next_number m.stops) moment (told_at P m.program m)
    in
    each-length f (without gone m.seats) ∙ without-length gone 1 m.seats

steps-length : {C T Q X : Type 0} → (P : Protocol C T Q X) (moment n : ℕ) (m : Meaning C Q X)
    → length (after_steps P moment n m).seats ≡ length m.seats
steps-length P moment zero m = refl
steps-length P moment (suc n) m = steps-length P moment n (step P moment [] m) ∙ step-length P moment [] m

run-length : {C T Q X : Type 0} → (P : Protocol C T Q X) (moment : ℕ) (gone : List ℕ) (n : ℕ) (m : Meaning C Q X)
    → length (after_run P moment gone n m).seats ≡ length m.seats
run-length P moment gone zero m = without-length gone 1 m.seats
run-length P moment gone (suc n) m = step-length P moment gone (after_steps P moment n m) ∙ steps-length P moment n m

pub ran-length : {C T Q X : Type 0} → (P : Protocol C T Q X) (n moment : ℕ) (gone : List ℕ) (m : Meaning C Q X)
    → length (ran P n moment gone m).seats ≡ length m.seats
ran-length P n moment gone m =
    let k = after_run P moment gone n m in
    settle-length P (with_seats (each reported k.seats) k) ∙ each-length reported k.seats ∙ run-length P moment gone n m

-- a number behind the last is nobody's
in-behind : {X : Type 0} → (i : ℕ) (seats : List (Seat X)) → length seats < suc i → seat_in i seats ≡ Left
in-behind i [] below = refl
in-behind zero (seat ∷ seats) below = absurd (omega (arith, below))
in-behind (suc i) (seat ∷ seats) below = in-behind i seats (omega (arith, below))

pub at-behind : {X : Type 0} → (s : ℕ) (seats : List (Seat X)) → length seats < s → seat_of s seats ≡ Left
at-behind zero seats below = refl
at-behind (suc i) seats below = in-behind i seats below

-- ---- one entry

-- what was handed out and made for a session: nothing, as long as it wasn't attached
record KeepsTexts {C T Q X : Type 0} (P : Protocol C T Q X) (s : ℕ) (m : Meaning C Q X) (handed made : List (List ℕ))
    : Type 0 where
  pub keeps : Keeps P handed (seat_of s m.seats) made
  pub none : length m.seats < s → (handed ≡ []) × (made ≡ [])

-- an entry at which it doesn't come
others-stand : {C T Q X : Type 0} → (P : Protocol C T Q X) (E : Texts P) → AreSent P E → (s : ℕ) (m k : Meaning C Q X)
    (handed made texts : List (List ℕ)) (seen : List Seen) → Follows P s m k texts seen → AllOther seen
    → (length k.seats < s → length m.seats < s) → KeepsTexts P s m handed made
    → KeepsTexts P s k (handed ++ texts) (made ++ made_of P E s (alone_at s m) seen)
others-stand P E sent s m k handed made texts seen follow other same stands =
    let a = alone_at s m in
    let new = made_of P E s a seen in
    record {
      keeps = subst (λ l. Keeps P (handed ++ l) (seat_of s k.seats) (made ++ new)) (sym follow.hands)
          (subst (λ b. Keeps P (handed ++ solo P s a seen) b.seat (made ++ new)) (sym follow.goes)
          (view-keeps P E sent s handed made a seen other stands.keeps));
      none = λ below.
          let before = stands.none (same below) in
          let silent = view-away P E s a seen other (at-behind s m.seats (same below)) in
          (both-none handed texts before.0 (follow.hands ∙ silent.0), both-none made new before.1 silent.1);
    }

mark-other : (b : Bool) → AllOther (mark b)
mark-other true = (refl, tt)
mark-other false = tt

own-other : (own : Seen) (others : List Seen) (b : Bool) → is_other own ≡ true → AllOther others
    → AllOther (if b then own ∷ [] else others)
own-other own others true is all = (is, tt)
own-other own others false is all = all

below-same : (a b s : ℕ) → a ≡ b → a < s → b < s
below-same a b s is below = omega (arith, is, below)

attach-stands : {C T Q X : Type 0} → (P : Protocol C T Q X) (E : Texts P) → AreSent P E → (s : ℕ) (m : Meaning C Q X)
    (handed made : List (List ℕ)) (b : Bool) → (length m.seats + 1 == s) ≡ b
    → Follows P s m (apply P m Attach) [] (if b then Came ∷ [] else []) → KeepsTexts P s m handed made
    → KeepsTexts P s (apply P m Attach) (handed ++ [])
    (made ++ made_of P E s (alone_at s m) (if b then Came ∷ [] else []))
attach-stands P E sent s m handed made true is follow stands =
    let e : length m.seats + 1 ≡ s = eqb-true (length m.seats + 1) s is in
    let before = stands.none (omega (arith, e)) in
    let longer = append-length (Attached (P.fresh (length m.seats + 1))) m.seats in
    record {
      keeps = subst (λ b. Keeps P (handed ++ []) b.seat (made ++ [])) (sym follow.goes)
          (rw (before.0, before.1) (sent.fresh s));
      none = λ below. absurd (omega (arith, e, longer, below));
    }
attach-stands P E sent s m handed made false is follow stands =
    let longer = append-length (Attached (P.fresh (length m.seats + 1))) m.seats in
    others-stand P E sent s m (apply P m Attach) handed made [] [] follow tt (λ below. omega (arith, longer, below))
    stands

entry-stands : {C T Q X : Type 0} → (P : Protocol C T Q X) (E : Texts P) → AreSent P E → (s : ℕ) (m : Meaning C Q X)
    (handed made : List (List ℕ)) (entry : Entry) → FitsEntry P m entry → KeepsTexts P s m handed made
    → KeepsTexts P s (apply P m entry) (handed ++ handed_at P s m entry)
    (made ++ made_of P E s (alone_at s m) (view_at P s m entry))
entry-stands P E sent s m handed made Attach fits stands =
    attach-stands P E sent s m handed made (length m.seats + 1 == s) refl (follows P s m Attach fits) stands
entry-stands P E sent s m handed made (Tell r text) fits stands =
    let k = apply P m (Tell r text) in
    others-stand P E sent s m k handed made _ _ (follows P s m (Tell r text) fits)
    (own-other (Told text (has_resumed m k)) (mark (has_resumed m k)) (r == s) refl (mark-other (has_resumed m k)))
    (below-same _ _ s (tell-length P r text m (seat_of r m.seats))) stands
entry-stands P E sent s m handed made (Take r) fits stands =
    others-stand P E sent s m (apply P m (Take r)) handed made _ _ (follows P s m (Take r) fits)
    (own-other Took [] (r == s) refl tt) (below-same _ _ s (take-length P r m (seat_of r m.seats))) stands
entry-stands P E sent s m handed made (Detach r) fits stands =
    let k = apply P m (Detach r) in
    others-stand P E sent s m k handed made _ _ (follows P s m (Detach r) fits)
    (own-other (Went (has_resumed m k)) (mark (has_resumed m k)) (r == s) refl (mark-other (has_resumed m k)))
    (below-same _ _ s (detach-length P r m (seat_of r m.seats))) stands
entry-stands P E sent s m handed made (Ran n moment gone) fits stands =
    others-stand P E sent s m (apply P m (Ran n moment gone)) handed made _ _ (follows P s m (Ran n moment gone) fits)
    (refl, tt) (below-same _ _ s (ran-length P n moment gone m)) stands
entry-stands P E sent s m handed made Shut fits stands =
    others-stand P E sent s m (apply P m Shut) handed made _ _ (follows P s m Shut fits) tt (λ below. below) stands

-- ---- a whole history

history-stands : {C T Q X : Type 0} → (P : Protocol C T Q X) (E : Texts P) → AreSent P E → (s : ℕ) (m : Meaning C Q X)
    (handed made : List (List ℕ)) (history : List Entry) → FitsAll P m history → KeepsTexts P s m handed made
    → Keeps P (handed ++ handed_of P s m history) (seat_of s (fold (apply P) m history).seats)
    (made ++ made_of P E s (alone_at s m) (view P s m history))
history-stands P E sent s m handed made [] fits stands =
    not-handed P handed _ _ (same-keeps P handed made (seat_of s m.seats) stands.keeps)
history-stands P E sent s m handed made (entry ∷ history) fits stands =
    let k = apply P m entry in
    let last = seat_of s (fold (apply P) k history).seats in
    let now = handed_at P s m entry in
    let later = handed_of P s k history in
    let a = alone_at s m in
    let seen = view_at P s m entry in
    let rest = view P s k history in
    let here = made_of P E s a seen in
    let there = made_of P E s (alone_at s k) rest in
    subst (λ l. Keeps P (handed ++ (now ++ later)) last (made ++ l))
    (ap (λ b. here ++ made_of P E s b rest) (follows P s m entry fits.0).goes ∙ sym (made_of-append P E s a seen rest))
    (subst (λ l. Keeps P l last (made ++ (here ++ there))) (append_assoc handed now later)
    (subst (λ l. Keeps P (handed ++ now ++ later) last l) (append_assoc made here there)
    (history-stands P E sent s k (handed ++ now) (made ++ here) history fits.1
    (entry-stands P E sent s m handed made entry fits.0 stands))))

unborn-keeps : {C T Q X : Type 0} → (P : Protocol C T Q X) (s : ℕ) → Keeps P [] (seat_of {X = X} s []) []
unborn-keeps P zero = ([], refl)
unborn-keeps P (suc i) = ([], refl)

-- what is made for a session is handed out in order
pub in-order : {C T Q X : Type 0} → (P : Protocol C T Q X) (E : Texts P) → AreSent P E
    → (s : ℕ) (c : C) (wait : Bool) (history : List Entry)
    → FitsAll P (begin c wait) history
    → Keeps P (handed_of P s (begin c wait) history) (seat_of s (whole P c wait history).seats)
    (made_of P E s (unborn c wait) (view P s (begin c wait) history))
in-order P E sent s c wait history fits =
    subst (λ a. Keeps P (handed_of P s (begin c wait) history) (seat_of s (whole P c wait history).seats)
    (made_of P E s a (view P s (begin c wait) history)))
    (unborn-at s c wait)
    (history-stands P E sent s (begin c wait) [] [] history fits
    (record { keeps = unborn-keeps P s; none = λ below. (refl, refl) }))
