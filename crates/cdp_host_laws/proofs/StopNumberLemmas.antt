-- How stops are counted, and which of them a pause is.
use Rattle.std.proofs.Common.{◌≡◌, ◌<◌, ◌≤◌, ℕ, zero, suc, ◌+◌, ◌^◌, List, [], ◌∷◌, ◌++◌, length, map, Bool, true, false, if◌then◌else◌, fold, option_to_list, Option, Some, None, refl, ap, sym, subst, ◌∙◌, arith, append_assoc, append-nil, lt-ltb}
use Rattle.cdp_host_isolation.specs.Seats.{each, is_listed, numbers_from, reported, seat_of, some}
use Rattle.cdp_host_isolation.specs.Protocols.{Protocol}
use Rattle.cdp_host_isolation.specs.Meanings.{Meaning, after_run, begin, is_enabled_seat, is_paused, next_number, resume, resumed_seat, settle, with_seats, woken}
use Rattle.cdp_host_isolation.specs.Histories.{Entry, Attach, Tell, Take, Detach, Ran, Shut, FitsAll, FitsEntry, apply, asked, detach, ran, steps_made, steps_of, take, tell, whole, with_seat}
use Rattle.cdp_host_isolation.specs.Alone.{Alone, alone_at, one_step, passing, run, unless_listed}
use Rattle.cdp_host_isolation.specs.declared.seat.Seat.{Seat}
use Rattle.cdp_host_isolation.specs.declared.seat.Seat.TheVariants.{Attached, Lost, Left}
use Rattle.cdp_host_isolation.proofs.AloneLemmas.{run-alone}
use Rattle.cdp_host_laws.specs.StopsMade.{IsLast, stop_at, stops_of}

-- ---- what a call does to the count of stops and to the pause

-- as many stops as before, and the pause that was, or none
record Stays {C Q X : Type 0} (old new : Meaning C Q X) : Type 0 where
  pub stops : new.stops ≡ old.stops
  pub stop : (q : Q) → new.stop ≡ Some q → old.stop ≡ Some q

stays-same : {C Q X : Type 0} → (m : Meaning C Q X) → Stays m m
stays-same m = record { stops = refl; stop = λ q is. is }

resumed-stays : {C T Q X : Type 0} → (P : Protocol C T Q X) (m : Meaning C Q X) (b : Bool)
    → Stays m (if b then record m { stop = None; seats = each (resumed_seat P) m.seats } else m)
resumed-stays P m true = record { stops = refl; stop = λ q is. absurd cc }
resumed-stays P m false = stays-same m

resume-stays : {C T Q X : Type 0} → (P : Protocol C T Q X) (m : Meaning C Q X) → Stays m (resume P m)
resume-stays P m = resumed-stays P m (is_paused m)

settled-stays : {C T Q X : Type 0} → (P : Protocol C T Q X) (m : Meaning C Q X) (b : Bool)
    → Stays m (if b then m else resume P m)
settled-stays P m true = stays-same m
settled-stays P m false = resume-stays P m

settle-stays : {C T Q X : Type 0} → (P : Protocol C T Q X) (m : Meaning C Q X) → Stays m (settle P m)
settle-stays P m = settled-stays P m (some (is_enabled_seat P) m.seats)

-- the same of one that has other seats, or began
seated-stays : {C Q X : Type 0} → (m k l : Meaning C Q X) → k.stops ≡ m.stops → k.stop ≡ m.stop → Stays k l → Stays m l
seated-stays m k l count pause stays =
    record { stops = stays.stops ∙ count; stop = λ q is. sym pause ∙ stays.stop q is }

asked-stays : {C T Q X : Type 0} → (P : Protocol C T Q X) (m : Meaning C Q X) (resumes wakes : Bool)
    → Stays m (asked P resumes wakes m)
asked-stays P m true wakes = resume-stays P m
asked-stays P m false true =
    let k = record m { phase = woken m.phase } in
    seated-stays m k (settle P k) refl refl (settle-stays P k)
asked-stays P m false false = settle-stays P m

told-stays : {C T Q X : Type 0}
    → (P : Protocol C T Q X) (s : ℕ) (m : Meaning C Q X) (resumes wakes : Bool) (y : X) (b : Bool)
    → Stays m (if b then asked P resumes wakes (with_seat s (Attached y) m) else settle P (with_seat s Left m))
told-stays P s m resumes wakes y true =
    let k = with_seat s (Attached y) m in
    seated-stays m k (asked P resumes wakes k) refl refl (asked-stays P k resumes wakes)
told-stays P s m resumes wakes y false =
    let k = with_seat s Left m in
    seated-stays m k (settle P k) refl refl (settle-stays P k)

tell-stays : {C T Q X : Type 0} → (P : Protocol C T Q X) (s : ℕ) (text : List ℕ) (m : Meaning C Q X) (seat : Seat X)
    → Stays m (tell P s text m seat)
tell-stays P s text m (Attached x) =
    let y = P.reply m.stop m.program text x in
    told-stays P s m (P.resumes m.stop m.program text x) (P.wakes m.stop m.program text x) y (P.fits y)
tell-stays P s text m (Lost loss is_reported is_told) = stays-same m
tell-stays P s text m Left = stays-same m

take-stays : {C T Q X : Type 0} → (P : Protocol C T Q X) (s : ℕ) (m : Meaning C Q X) (seat : Seat X)
    → Stays m (take P s m seat)
take-stays P s m (Attached x) = record { stops = refl; stop = λ q is. is }
take-stays P s m (Lost loss is_reported is_told) = stays-same m
take-stays P s m Left = stays-same m

detach-stays : {C T Q X : Type 0} → (P : Protocol C T Q X) (s : ℕ) (m : Meaning C Q X) (seat : Seat X)
    → Stays m (detach P s m seat)
detach-stays P s m (Attached x) =
    let k = with_seat s Left m in
    seated-stays m k (settle P k) refl refl (settle-stays P k)
detach-stays P s m (Lost loss is_reported is_told) = record { stops = refl; stop = λ q is. is }
detach-stays P s m Left = stays-same m

-- ---- what a run does

passing-stops : {C T Q X : Type 0} → (P : Protocol C T Q X) (moment n : ℕ) (a : Alone C Q X)
    → (passing P moment n a).stops ≡ a.stops
passing-stops P moment zero a = refl
passing-stops P moment (suc n) a = passing-stops P moment n (one_step P moment false a)

listed-stops : {C Q X : Type 0} → (listed : Bool) (a : Alone C Q X) → (unless_listed listed a).stops ≡ a.stops
listed-stops true a = refl
listed-stops false a = refl

-- where it stops there is one stop more, whose pause has its number; else there are as many as before
abbrev pub Counts : {Q : Type 0} → (Q → ℕ) → Option Q → ℕ → ℕ → Type 0
Counts number None before after = after ≡ before
Counts number (Some q) before after = (after ≡ next_number before) × (number q ≡ next_number before)

run-counts : {C T Q X : Type 0} → (P : Protocol C T Q X) (number : Q → ℕ)
    → ((k : ℕ) (c : C) → number (P.pause k c) ≡ k)
    → (moment n : ℕ) (stops listed : Bool) (a : Alone C Q X)
    → (let b = run P moment (suc n) stops listed a in Counts number b.stop a.stops b.stops)
run-counts P number numbered moment n true listed a =
    let w = unless_listed listed (passing P moment n a) in
    let same : w.stops ≡ a.stops = listed-stops listed (passing P moment n a) ∙ passing-stops P moment n a in
    let one : next_number w.stops ≡ next_number a.stops = ap next_number same in
    (one, numbered (next_number w.stops) (P.next w.program) ∙ one)
run-counts P number numbered moment n false listed a =
    listed-stops listed (passing P moment n a) ∙ passing-stops P moment n a

pub entry-counts : {C T Q X : Type 0} → (P : Protocol C T Q X) (number : Q → ℕ)
    → ((k : ℕ) (c : C) → number (P.pause k c) ≡ k)
    → (m : Meaning C Q X) (entry : Entry) → FitsEntry P m entry
    → Counts number (stop_at P m entry) m.stops (apply P m entry).stops
entry-counts P number numbered m Attach fits = refl
entry-counts P number numbered m (Tell s text) fits = (tell-stays P s text m (seat_of s m.seats)).stops
entry-counts P number numbered m (Take s) fits = (take-stays P s m (seat_of s m.seats)).stops
entry-counts P number numbered m (Detach s) fits = (detach-stays P s m (seat_of s m.seats)).stops
entry-counts P number numbered m (Ran zero moment gone) fits =
    let k = after_run P moment gone zero m in
    (settle-stays P (with_seats (each reported k.seats) k)).stops
entry-counts P number numbered m (Ran (suc n) moment gone) fits =
    let k = after_run P moment gone (suc n) m in
    let a = alone_at 0 m in
    let R : Alone _ _ _ → Type 0 = λ b. Counts number b.stop m.stops b.stops in
    let here : Counts number k.stop m.stops k.stops = subst R (sym (run-alone P 0 (suc n) moment gone m fits))
    (run-counts P number numbered moment n (is_paused k) (is_listed gone 0) a) in
    subst (λ i. Counts number k.stop m.stops i) (sym (settle-stays P (with_seats (each reported k.seats) k)).stops)
    here
entry-counts P number numbered m Shut fits = refl

-- ---- the numbers of all stops

next-below : (k : ℕ) → k < 2 ^ 62 → next_number k ≡ k + 1
next-below k below = ap (λ b. if b then k + 1 else k) (lt-ltb k (2 ^ 62) below)

numbers-on : {Q : Type 0} → (number : Q → ℕ) (most before after : ℕ) (stop : Option Q) (rest : List Q)
    → ((k : ℕ) → k < most → next_number k ≡ k + 1)
    → Counts number stop before after → before + length (option_to_list stop ++ rest) ≤ most
    → (after + length rest ≤ most → map number rest ≡ numbers_from (after + 1) (length rest))
    → map number (option_to_list stop ++ rest) ≡ numbers_from (before + 1) (length (option_to_list stop ++ rest))
numbers-on number most before after None rest next counts few others =
    let few_more : after + length rest ≤ most = omega (arith, counts, few) in
    others few_more ∙ ap (λ k. numbers_from (k + 1) (length rest)) counts
numbers-on number most before after (Some q) rest next counts few others =
    let one : next_number before ≡ before + 1 = next before (omega (arith, few)) in
    let more : after ≡ before + 1 = counts.0 ∙ one in
    let here : number q ≡ before + 1 = counts.1 ∙ one in
    let few_more : after + length rest ≤ most = omega (arith, more, few) in
    ap (λ k. k ∷ map number rest) here
    ∙ ap (λ numbers. (before + 1) ∷ numbers)
    (others few_more ∙ ap (λ k. numbers_from (k + 1) (length rest)) more)

counted-from : {C T Q X : Type 0} → (P : Protocol C T Q X) (number : Q → ℕ)
    → ((k : ℕ) (c : C) → number (P.pause k c) ≡ k)
    → (m : Meaning C Q X) (history : List Entry) → FitsAll P m history
    → m.stops + length (stops_of P m history) ≤ 2 ^ 62
    → map number (stops_of P m history) ≡ numbers_from (m.stops + 1) (length (stops_of P m history))
counted-from P number numbered m [] fits few = refl
counted-from P number numbered m (entry ∷ history) fits few =
    let k = apply P m entry in
    numbers-on number (2 ^ 62) m.stops k.stops (stop_at P m entry) (stops_of P k history) next-below
    (entry-counts P number numbered m entry fits.0) few
    (λ small. counted-from P number numbered k history fits.1 small)

-- the stops of a history have the numbers 1, 2 and so on
pub stops-numbered : {C T Q X : Type 0} → (P : Protocol C T Q X) (number : Q → ℕ)
    → ((k : ℕ) (c : C) → number (P.pause k c) ≡ k)
    → (c : C) (wait : Bool) (history : List Entry) → FitsAll P (begin c wait) history
    → length (stops_of P (begin c wait) history) ≤ 2 ^ 62
    → map number (stops_of P (begin c wait) history)
    ≡ numbers_from 1 (length (stops_of P (begin c wait) history))
stops-numbered P number numbered c wait history fits few =
    let small : 0 + length (stops_of P (begin c wait) history) ≤ 2 ^ 62 = omega (arith, few) in
    counted-from P number numbered (begin c wait) history fits small

-- ---- the pause that is kept

kept-last : {Q : Type 0} → (past : List Q) (old new : Option Q) → ((q : Q) → new ≡ Some q → old ≡ Some q)
    → IsLast past old → IsLast (past ++ []) new
kept-last past old new stays last = λ q is.
    let there = last q (stays q is) in
    (there.0, append-nil past ∙ there.1)

made-last : {Q : Type 0} → (past : List Q) (stop new : Option Q) → ((q : Q) → new ≡ Some q → stop ≡ Some q)
    → IsLast (past ++ option_to_list stop) new
made-last past stop new stays = λ q is. (past, ap (λ o. past ++ option_to_list o) (stays q is))

entry-last : {C T Q X : Type 0} → (P : Protocol C T Q X) (m : Meaning C Q X) (past : List Q) (entry : Entry)
    → IsLast past m.stop → IsLast (past ++ option_to_list (stop_at P m entry)) (apply P m entry).stop
entry-last P m past Attach last = kept-last past m.stop m.stop (λ q is. is) last
entry-last P m past (Tell s text) last =
    kept-last past m.stop (tell P s text m (seat_of s m.seats)).stop (tell-stays P s text m (seat_of s m.seats)).stop
    last
entry-last P m past (Take s) last =
    kept-last past m.stop (take P s m (seat_of s m.seats)).stop (take-stays P s m (seat_of s m.seats)).stop last
entry-last P m past (Detach s) last =
    kept-last past m.stop (detach P s m (seat_of s m.seats)).stop (detach-stays P s m (seat_of s m.seats)).stop last
entry-last P m past (Ran zero moment gone) last =
    let k = after_run P moment gone zero m in
    kept-last past m.stop (ran P zero moment gone m).stop (settle-stays P (with_seats (each reported k.seats) k)).stop
    last
entry-last P m past (Ran (suc n) moment gone) last =
    let k = after_run P moment gone (suc n) m in
    made-last past k.stop (ran P (suc n) moment gone m).stop
    (settle-stays P (with_seats (each reported k.seats) k)).stop
entry-last P m past Shut last = kept-last past m.stop m.stop (λ q is. is) last

last-from : {C T Q X : Type 0} → (P : Protocol C T Q X) (m : Meaning C Q X) (past : List Q) (history : List Entry)
    → IsLast past m.stop → IsLast (past ++ stops_of P m history) (fold (apply P) m history).stop
last-from P m past [] last = kept-last past m.stop m.stop (λ q is. is) last
last-from P m past (entry ∷ history) last =
    let k = apply P m entry in
    let new = option_to_list (stop_at P m entry) in
    subst (λ l. IsLast l (fold (apply P) k history).stop) (append_assoc past new (stops_of P k history))
    (last-from P k (past ++ new) history (entry-last P m past entry last))

-- a paused program is at the last stop of its history
pub pause-last : {C T Q X : Type 0} → (P : Protocol C T Q X) (c : C) (wait : Bool) (history : List Entry)
    → IsLast (stops_of P (begin c wait) history) (whole P c wait history).stop
pause-last P c wait history = last-from P (begin c wait) [] history (λ q is. absurd cc)

-- ---- there are no more stops than steps

few-stops : {Q : Type 0} → (n made : ℕ) (stop : Option Q) (rest : List Q) → (n ≡ 0 → stop ≡ None)
    → length rest ≤ made → length (option_to_list stop ++ rest) ≤ n + made
few-stops n made None rest none few = omega (arith, few)
few-stops zero made (Some q) rest none few = let e = none refl in absurd cc
few-stops (suc n) made (Some q) rest none few = omega (arith, few)

entry-few : {C T Q X : Type 0} → (P : Protocol C T Q X) (m : Meaning C Q X) (entry : Entry)
    → steps_of entry ≡ 0 → stop_at P m entry ≡ None
entry-few P m Attach none = refl
entry-few P m (Tell s text) none = refl
entry-few P m (Take s) none = refl
entry-few P m (Detach s) none = refl
entry-few P m (Ran zero moment gone) none = refl
entry-few P m (Ran (suc n) moment gone) none = absurd (omega (arith, none))
entry-few P m Shut none = refl

few-from : {C T Q X : Type 0} → (P : Protocol C T Q X) (m : Meaning C Q X) (history : List Entry)
    → length (stops_of P m history) ≤ steps_made history
few-from P m [] = omega arith
few-from P m (entry ∷ history) =
    few-stops (steps_of entry) (steps_made history) (stop_at P m entry) (stops_of P (apply P m entry) history)
    (entry-few P m entry) (few-from P (apply P m entry) history)

pub stops-few : {C T Q X : Type 0} → (P : Protocol C T Q X) (c : C) (wait : Bool) (history : List Entry)
    → length (stops_of P (begin c wait) history) ≤ steps_made history
stops-few P c wait history = few-from P (begin c wait) history
