-- A session's part of a host goes as it would alone.
use Rattle.std.proofs.Common.{◌≡◌, ◌≢◌, ◌<◌, ℕ, zero, suc, ◌+◌, List, [], ◌∷◌, ◌++◌, length, Bool, true, false, ◌==◌, ◌&&◌, not, if◌then◌else◌, Some, None, is_some, refl, ap, sym, ◌∙◌, arith, append_assoc, append-nil}
use Rattle.std.proofs.lemmas.Bool.{and_parts, eqb-true, not-true, or_parts}
use Rattle.std.proofs.lemmas.Bool.Decides.{nat_tests}
use Rattle.cdp_host_isolation.specs.Seats.{each, fallen, is_listed, reported, seat_of, some, without}
use Rattle.cdp_host_isolation.specs.Protocols.{Protocol}
use Rattle.cdp_host_isolation.specs.Meanings.{Meaning, after_run, after_steps, begin, is_enabled_seat, is_first, is_held, is_named, is_paused, is_ready, next_number, resume, resumed_seat, seat_behind, settle, step, told_at, with_seats, woken}
use Rattle.cdp_host_isolation.specs.Histories.{Entry, Attach, Tell, Take, Detach, Ran, Shut, FitsAll, FitsEntry, apply, asked, detach, handed_at, handed_of, ran, take, tell, waiting, with_seat}
use Rattle.cdp_host_isolation.specs.Alone.{Alone, Seen, Came, Told, Took, Went, Passed, alone_at, given, goes_on, has_resumed, mark, one_step, passing, replied, run, see, solo, took, unborn, unless_listed, view, view_at, went}
use Rattle.cdp_host_isolation.specs.declared.phase.Phase.{Phase}
use Rattle.cdp_host_isolation.specs.declared.phase.Phase.TheVariants.{Waiting, Woken, Running}
use Rattle.cdp_host_isolation.specs.declared.seat.Seat.{Seat}
use Rattle.cdp_host_isolation.specs.declared.seat.Seat.TheVariants.{Attached, Lost, Left}
use Rattle.cdp_host_isolation.proofs.SeatLemmas.{append-new, append-old, each-at, put-other, put-same, without-at}

and-not : (b : Bool) → b && not b ≡ false
and-not true = refl
and-not false = refl

-- a program with a session in this seat
abbrev alone_with : {C Q X : Type 0} → Meaning C Q X → Seat X → Alone C Q X
alone_with m seat =
    record { program = m.program; first = is_first m.phase; stop = m.stop; stops = m.stops; seat = seat }

same-seat : {C Q X : Type 0} → (m : Meaning C Q X) (a b : Seat X) → a ≡ b → alone_with m a ≡ alone_with m b
same-seat m a b is = ap (λ seat. alone_with m seat) is

-- ---- a resume

resumed-alone : {C T Q X : Type 0} → (P : Protocol C T Q X) (s : ℕ) (m : Meaning C Q X) (b : Bool)
    → alone_at s (if b then record m { stop = None; seats = each (resumed_seat P) m.seats } else m)
    ≡ goes_on P
    (b && not (is_some (if b then record m { stop = None; seats = each (resumed_seat P) m.seats } else m).stop))
    (alone_at s m)
resumed-alone P s m true = same-seat (record m { stop = None }) _ _ (each-at (resumed_seat P) refl s m.seats)
resumed-alone P s m false = refl

resume-alone : {C T Q X : Type 0} → (P : Protocol C T Q X) (s : ℕ) (m : Meaning C Q X)
    → alone_at s (resume P m) ≡ goes_on P (has_resumed m (resume P m)) (alone_at s m)
resume-alone P s m = resumed-alone P s m (is_paused m)

stayed-alone : {C T Q X : Type 0} → (P : Protocol C T Q X) (m : Meaning C Q X) (a : Alone C Q X)
    → a ≡ goes_on P (has_resumed m m) a
stayed-alone P m a = rw (and-not (is_paused m)) refl

settled-alone : {C T Q X : Type 0} → (P : Protocol C T Q X) (s : ℕ) (m : Meaning C Q X) (b : Bool)
    → alone_at s (if b then m else resume P m) ≡ goes_on P (has_resumed m (if b then m else resume P m)) (alone_at s m)
settled-alone P s m true = stayed-alone P m (alone_at s m)
settled-alone P s m false = resume-alone P s m

settle-alone : {C T Q X : Type 0} → (P : Protocol C T Q X) (s : ℕ) (m : Meaning C Q X)
    → alone_at s (settle P m) ≡ goes_on P (has_resumed m (settle P m)) (alone_at s m)
settle-alone P s m = settled-alone P s m (some (is_enabled_seat P) m.seats)

first-woken : (p : Phase) → is_first (woken p) ≡ is_first p
first-woken Waiting = refl
first-woken Woken = refl
first-woken Running = refl

woken-alone : {C Q X : Type 0} → (s : ℕ) (m : Meaning C Q X)
    → alone_at s (record m { phase = woken m.phase }) ≡ alone_at s m
woken-alone s m = ap (λ b. record (alone_at s m) { first = b }) (first-woken m.phase)

asked-alone : {C T Q X : Type 0} → (P : Protocol C T Q X) (s : ℕ) (m : Meaning C Q X) (resumes wakes : Bool)
    → alone_at s (asked P resumes wakes m) ≡ goes_on P (has_resumed m (asked P resumes wakes m)) (alone_at s m)
asked-alone P s m true wakes = resume-alone P s m
asked-alone P s m false true =
    settle-alone P s (record m { phase = woken m.phase })
    ∙ ap (λ a. goes_on P (has_resumed m (asked P false true m)) a) (woken-alone s m)
asked-alone P s m false false = settle-alone P s m

-- ---- the session's own entries

-- where an entry gave the session this seat, and went on from there
own : {C T Q X : Type 0} → (P : Protocol C T Q X) (s : ℕ) (m k : Meaning C Q X) (seat : Seat X)
    → seat_of s m.seats ≢ Left
    → alone_at s k ≡ goes_on P (has_resumed m k) (alone_at s (with_seat s seat m))
    → alone_at s k ≡ goes_on P (has_resumed m k) (alone_with m seat)
own P s m k seat there goes =
    goes ∙ ap (λ a. goes_on P (has_resumed m k) a) (same-seat m _ _ (put-same s seat m.seats there))

-- behind a text whose reply fits, or doesn't
told-choice : {C T Q X : Type 0}
    → (P : Protocol C T Q X) (s : ℕ) (m : Meaning C Q X) (resumes wakes : Bool) (y : X) (b : Bool)
    → seat_of s m.seats ≢ Left
    → (let k = if b then asked P resumes wakes (with_seat s (Attached y) m) else settle P (with_seat s Left m) in
    alone_at s k ≡ goes_on P (has_resumed m k) (alone_with m (if b then Attached y else Left)))
told-choice P s m resumes wakes y true there =
    own P s m (asked P resumes wakes (with_seat s (Attached y) m)) (Attached y) there
    (asked-alone P s (with_seat s (Attached y) m) resumes wakes)
told-choice P s m resumes wakes y false there =
    own P s m (settle P (with_seat s Left m)) Left there (settle-alone P s (with_seat s Left m))

-- an entry of a session that isn't attached
absent : {C T Q X : Type 0} → (P : Protocol C T Q X) (s : ℕ) (m : Meaning C Q X) (seat : Seat X)
    → seat_of s m.seats ≡ seat
    → alone_at s m ≡ goes_on P (has_resumed m m) (alone_with m seat)
absent P s m seat is = same-seat m _ _ is ∙ stayed-alone P m (alone_with m seat)

attached-there : {X : Type 0} → (seat : Seat X) (x : X) → seat ≡ Attached x → seat ≢ Left
attached-there seat x is left = cc

lost-there : {X : Type 0} → (seat old : Seat X) → seat ≡ old → old ≢ Left → seat ≢ Left
lost-there seat old is there left = there (sym is ∙ left)

tell-own : {C T Q X : Type 0} → (P : Protocol C T Q X) (s : ℕ) (text : List ℕ) (m : Meaning C Q X) (seat : Seat X)
    → seat_of s m.seats ≡ seat
    → alone_at s (tell P s text m seat) ≡ goes_on P (has_resumed m (tell P s text m seat))
    (alone_with m (replied P text (alone_at s m) seat))
tell-own P s text m (Attached x) is =
    let y = P.reply m.stop m.program text x in
    told-choice P s m (P.resumes m.stop m.program text x) (P.wakes m.stop m.program text x) y (P.fits y)
    (attached-there _ x is)
tell-own P s text m (Lost loss is_reported is_told) is = absent P s m (Lost loss is_reported is_told) is
tell-own P s text m Left is = absent P s m Left is

detach-own : {C T Q X : Type 0} → (P : Protocol C T Q X) (s : ℕ) (m : Meaning C Q X) (seat : Seat X)
    → seat_of s m.seats ≡ seat
    → alone_at s (detach P s m seat) ≡ goes_on P (has_resumed m (detach P s m seat)) (alone_with m (went seat))
detach-own P s m (Attached x) is =
    own P s m (settle P (with_seat s Left m)) Left (attached-there _ x is) (settle-alone P s (with_seat s Left m))
detach-own P s m (Lost loss is_reported is_told) is =
    let k = with_seat s (Lost loss is_reported true) m in
    own P s m k (Lost loss is_reported true) (lost-there _ (Lost loss is_reported is_told) is (λ same. cc))
    (stayed-alone P m (alone_at s k))
detach-own P s m Left is = absent P s m Left is

take-own : {C T Q X : Type 0} → (P : Protocol C T Q X) (s : ℕ) (m : Meaning C Q X) (seat : Seat X)
    → seat_of s m.seats ≡ seat
    → alone_at s (take P s m seat) ≡ alone_with m (took P seat)
take-own P s m (Attached x) is = same-seat m _ _ (put-same s (Attached (P.emptied x)) m.seats (attached-there _ x is))
take-own P s m (Lost loss is_reported is_told) is = same-seat m _ _ is
take-own P s m Left is = same-seat m _ _ is

-- ---- the entries of other sessions

other-seat : {C Q X : Type 0} → (r s : ℕ) (m : Meaning C Q X) (seat : Seat X) → r ≢ s
    → alone_at s (with_seat r seat m) ≡ alone_at s m
other-seat r s m seat other = same-seat m _ _ (put-other r s seat m.seats other)

others : {C T Q X : Type 0} → (P : Protocol C T Q X) (r s : ℕ) (m k : Meaning C Q X) (seat : Seat X) → r ≢ s
    → alone_at s k ≡ goes_on P (has_resumed m k) (alone_at s (with_seat r seat m))
    → alone_at s k ≡ goes_on P (has_resumed m k) (alone_at s m)
others P r s m k seat other goes = goes ∙ ap (λ a. goes_on P (has_resumed m k) a) (other-seat r s m seat other)

told-other : {C T Q X : Type 0}
    → (P : Protocol C T Q X) (r s : ℕ) (m : Meaning C Q X) (resumes wakes : Bool) (y : X) (b : Bool)
    → r ≢ s
    → (let k = if b then asked P resumes wakes (with_seat r (Attached y) m) else settle P (with_seat r Left m) in
    alone_at s k ≡ goes_on P (has_resumed m k) (alone_at s m))
told-other P r s m resumes wakes y true other =
    others P r s m (asked P resumes wakes (with_seat r (Attached y) m)) (Attached y) other
    (asked-alone P s (with_seat r (Attached y) m) resumes wakes)
told-other P r s m resumes wakes y false other =
    others P r s m (settle P (with_seat r Left m)) Left other (settle-alone P s (with_seat r Left m))

tell-other : {C T Q X : Type 0} → (P : Protocol C T Q X) (r s : ℕ) (text : List ℕ) (m : Meaning C Q X) (seat : Seat X)
    → r ≢ s
    → alone_at s (tell P r text m seat) ≡ goes_on P (has_resumed m (tell P r text m seat)) (alone_at s m)
tell-other P r s text m (Attached x) other =
    let y = P.reply m.stop m.program text x in
    told-other P r s m (P.resumes m.stop m.program text x) (P.wakes m.stop m.program text x) y (P.fits y) other
tell-other P r s text m (Lost loss is_reported is_told) other = stayed-alone P m (alone_at s m)
tell-other P r s text m Left other = stayed-alone P m (alone_at s m)

detach-other : {C T Q X : Type 0} → (P : Protocol C T Q X) (r s : ℕ) (m : Meaning C Q X) (seat : Seat X) → r ≢ s
    → alone_at s (detach P r m seat) ≡ goes_on P (has_resumed m (detach P r m seat)) (alone_at s m)
detach-other P r s m (Attached x) other =
    others P r s m (settle P (with_seat r Left m)) Left other (settle-alone P s (with_seat r Left m))
detach-other P r s m (Lost loss is_reported is_told) other =
    let k = with_seat r (Lost loss is_reported true) m in
    others P r s m k (Lost loss is_reported true) other (stayed-alone P m (alone_at s k))
detach-other P r s m Left other = stayed-alone P m (alone_at s m)

take-other : {C T Q X : Type 0} → (P : Protocol C T Q X) (r s : ℕ) (m : Meaning C Q X) (seat : Seat X) → r ≢ s
    → alone_at s (take P r m seat) ≡ alone_at s m
take-other P r s m (Attached x) other = other-seat r s m (Attached (P.emptied x)) other
take-other P r s m (Lost loss is_reported is_told) other = refl
take-other P r s m Left other = refl

-- ---- steps

listed-alone : {C Q X : Type 0} → (m : Meaning C Q X) (seat : Seat X) (b : Bool)
    → alone_with m (if b then fallen seat else seat) ≡ unless_listed b (alone_with m seat)
listed-alone m seat true = refl
listed-alone m seat false = refl

without-alone : {C Q X : Type 0} → (s : ℕ) (gone : List ℕ) (m : Meaning C Q X)
    → alone_with m (seat_of s (without gone m.seats)) ≡ unless_listed (is_listed gone s) (alone_at s m)
without-alone s gone m =
    same-seat m _ _ (without-at gone s m.seats) ∙ listed-alone m (seat_of s m.seats) (is_listed gone s)

step-alone : {C T Q X : Type 0} → (P : Protocol C T Q X) (s moment : ℕ) (gone : List ℕ) (m : Meaning C Q X)
    → alone_at s (step P moment gone m)
    ≡ one_step P moment (is_named P moment gone m.program m) (unless_listed (is_listed gone s) (alone_at s m))
step-alone P s moment gone m =
    let b = is_named P moment gone m.program m in
    let f : Seat _ → Seat _ = seat_behind P b (next_number m.stops) moment (told_at P m.program m) in
    same-seat (step P moment gone m) _ _ (each-at f refl s (without gone m.seats))
    ∙ ap (λ a. one_step P moment b a) (without-alone s gone m)

stop-flag : {Q : Type 0} → (b : Bool) (q : Q) → is_some (if b then Some q else None) ≡ b
stop-flag true q = refl
stop-flag false q = refl

-- a step stops the program exactly where it is named
pub step-stops : {C T Q X : Type 0} → (P : Protocol C T Q X) (moment : ℕ) (gone : List ℕ) (m : Meaning C Q X)
    → is_paused (step P moment gone m) ≡ is_named P moment gone m.program m
step-stops P moment gone m =
    stop-flag (is_named P moment gone m.program m) (P.pause (next_number m.stops) (P.next m.program))

-- a program that is ready isn't paused
pub ready-goes : {C T Q X : Type 0} → (P : Protocol C T Q X) (m : Meaning C Q X) → is_ready P m ≡ true
    → is_paused m ≡ false
ready-goes P m ready =
    let held : is_held m ≡ false = not-true _ (and_parts (not (is_held m)) (not (P.is_over m.program)) ready).0 in
    (or_parts (is_paused m) _ held).0

passing-alone : {C T Q X : Type 0} → (P : Protocol C T Q X) (s n moment : ℕ) (m : Meaning C Q X)
    → ((j : ℕ) → j < suc n → is_ready P (after_steps P moment j m) ≡ true)
    → alone_at s (after_steps P moment n m) ≡ passing P moment n (alone_at s m)
passing-alone P s zero moment m ready = refl
passing-alone P s (suc n) moment m ready =
    let after = step P moment [] m in
    let goes : is_named P moment [] m.program m ≡ false = sym (step-stops P moment [] m)
    ∙ ready-goes P after (ready (suc zero) (omega arith)) in
    passing-alone P s n moment after (λ j below. ready (suc j) (omega (arith, below)))
    ∙ ap (λ a. passing P moment n a) (step-alone P s moment [] m ∙ ap (λ b. one_step P moment b (alone_at s m)) goes)

-- behind a run a session is where a run leads it alone
pub run-alone : {C T Q X : Type 0} → (P : Protocol C T Q X) (s n moment : ℕ) (gone : List ℕ) (m : Meaning C Q X)
    → ((j : ℕ) → j < n → is_ready P (after_steps P moment j m) ≡ true)
    → alone_at s (after_run P moment gone n m) ≡ run P moment n (is_paused (after_run P moment gone n m))
    (is_listed gone s) (alone_at s m)
run-alone P s zero moment gone m ready = without-alone s gone m
run-alone P s (suc n) moment gone m ready =
    let before = after_steps P moment n m in
    step-alone P s moment gone before
    ∙ ap (λ b. one_step P moment b (unless_listed (is_listed gone s) (alone_at s before)))
    (sym (step-stops P moment gone before))
    ∙ ap (λ a. one_step P moment (is_paused (step P moment gone before)) (unless_listed (is_listed gone s) a))
    (passing-alone P s n moment m ready)

-- a session whose loss, if it was lost, was reported
abbrev pub with_report : {C Q X : Type 0} → Alone C Q X → Alone C Q X
with_report a = record a { seat = reported a.seat }

ran-alone : {C T Q X : Type 0} → (P : Protocol C T Q X) (s n moment : ℕ) (gone : List ℕ) (m : Meaning C Q X)
    → ((j : ℕ) → j < n → is_ready P (after_steps P moment j m) ≡ true)
    → alone_at s (ran P n moment gone m)
    ≡ see P s (alone_at s m)
    (Passed n moment (is_paused (after_run P moment gone n m)) (is_listed gone s)
    (has_resumed (after_run P moment gone n m) (ran P n moment gone m)))
ran-alone P s n moment gone m ready =
    let k = after_run P moment gone n m in
    settle-alone P s (with_seats (each reported k.seats) k)
    ∙ ap (λ a. goes_on P (has_resumed k (ran P n moment gone m)) a)
    (same-seat k _ _ (each-at reported refl s k.seats)
    ∙ ap (λ a. with_report a) (run-alone P s n moment gone m ready))

-- ---- one entry

-- behind all of a view
abbrev pub see_all : {C T Q X : Type 0} → Protocol C T Q X → ℕ → Alone C Q X → List Seen → Alone C Q X
see_all P s a [] = a
see_all P s a (seen ∷ view) = see_all P s (see P s a seen) view

solo-append : {C T Q X : Type 0} → (P : Protocol C T Q X) (s : ℕ) (a : Alone C Q X) (xs ys : List Seen)
    → solo P s a (xs ++ ys) ≡ solo P s a xs ++ solo P s (see_all P s a xs) ys
solo-append P s a [] ys = refl
solo-append P s a (x ∷ xs) ys =
    ap (λ rest. given P a x ++ rest) (solo-append P s (see P s a x) xs ys) ∙ sym (append_assoc (given P a x) _ _)

-- what one entry does to a session and hands out to it
pub record Follows {C T Q X : Type 0} (P : Protocol C T Q X) (s : ℕ) (m k : Meaning C Q X) (texts : List (List ℕ))
    (seen : List Seen) : Type 0 where
  pub goes : alone_at s k ≡ see_all P s (alone_at s m) seen
  pub hands : texts ≡ solo P s (alone_at s m) seen

mark-all : {C T Q X : Type 0} → (P : Protocol C T Q X) (s : ℕ) (m k : Meaning C Q X) (b : Bool)
    → alone_at s k ≡ goes_on P b (alone_at s m) → Follows P s m k [] (mark b)
mark-all P s m k true is = record { goes = is; hands = refl }
mark-all P s m k false is = record { goes = is; hands = refl }

pub differ : (r s : ℕ) → (r == s) ≡ false → r ≢ s
differ r s is same = grind (arith, nat_tests, is, same)

tell-follows : {C T Q X : Type 0} → (P : Protocol C T Q X) (s r : ℕ) (text : List ℕ) (m : Meaning C Q X) (b : Bool)
    → (r == s) ≡ b
    → Follows P s m (tell P r text m (seat_of r m.seats)) []
    (if b then Told text (has_resumed m (tell P r text m (seat_of r m.seats))) ∷ []
    else mark (has_resumed m (tell P r text m (seat_of r m.seats))))
tell-follows P s r text m true is =
    let e : r ≡ s = eqb-true r s is in
    rw e record { goes = tell-own P s text m (seat_of s m.seats) refl; hands = refl }
tell-follows P s r text m false is = mark-all P s m _ _ (tell-other P r s text m (seat_of r m.seats) (differ r s is))

detach-follows : {C T Q X : Type 0} → (P : Protocol C T Q X) (s r : ℕ) (m : Meaning C Q X) (b : Bool) → (r == s) ≡ b
    → Follows P s m (detach P r m (seat_of r m.seats)) []
    (if b then Went (has_resumed m (detach P r m (seat_of r m.seats))) ∷ []
    else mark (has_resumed m (detach P r m (seat_of r m.seats))))
detach-follows P s r m true is =
    let e : r ≡ s = eqb-true r s is in
    rw e record { goes = detach-own P s m (seat_of s m.seats) refl; hands = refl }
detach-follows P s r m false is = mark-all P s m _ _ (detach-other P r s m (seat_of r m.seats) (differ r s is))

take-follows : {C T Q X : Type 0} → (P : Protocol C T Q X) (s r : ℕ) (m : Meaning C Q X) (b : Bool) → (r == s) ≡ b
    → Follows P s m (take P r m (seat_of r m.seats)) (if b then waiting P (seat_of r m.seats) else [])
    (if b then Took ∷ [] else [])
take-follows P s r m true is =
    let e : r ≡ s = eqb-true r s is in
    rw e record {
      goes = take-own P s m (seat_of s m.seats) refl;
      hands = sym
          (append-nil (waiting P (seat_of s m.seats)));
    }
take-follows P s r m false is = record { goes = take-other P r s m (seat_of r m.seats) (differ r s is); hands = refl }

attach-follows : {C T Q X : Type 0} → (P : Protocol C T Q X) (s : ℕ) (m : Meaning C Q X) (b : Bool)
    → (length m.seats + 1 == s) ≡ b
    → Follows P s m (apply P m Attach) [] (if b then Came ∷ [] else [])
attach-follows P s m true is =
    let e : length m.seats + 1 ≡ s = eqb-true (length m.seats + 1) s is in
    record {
      goes = rw (← e)
          (same-seat m _ _ (append-new (Attached (P.fresh (length m.seats + 1))) m.seats));
      hands = refl;
    }
attach-follows P s m false is =
    record {
      goes = same-seat m _ _
          (append-old s (Attached (P.fresh (length m.seats + 1))) m.seats
          (differ (length m.seats + 1) s is));
      hands = refl;
    }

-- what each entry does to a session is what its view of it does
pub follows : {C T Q X : Type 0} → (P : Protocol C T Q X) (s : ℕ) (m : Meaning C Q X) (entry : Entry)
    → FitsEntry P m entry
    → Follows P s m (apply P m entry) (handed_at P s m entry) (view_at P s m entry)
follows P s m Attach fits = attach-follows P s m (length m.seats + 1 == s) refl
follows P s m (Tell r text) fits = tell-follows P s r text m (r == s) refl
follows P s m (Take r) fits = take-follows P s r m (r == s) refl
follows P s m (Detach r) fits = detach-follows P s r m (r == s) refl
follows P s m (Ran n moment gone) fits = record { goes = ran-alone P s n moment gone m fits; hands = refl }
follows P s m Shut fits = record { goes = refl; hands = refl }

-- ---- a whole history

-- from any meaning
alone-from : {C T Q X : Type 0} → (P : Protocol C T Q X) (s : ℕ) (m : Meaning C Q X) (history : List Entry)
    → FitsAll P m history
    → handed_of P s m history ≡ solo P s (alone_at s m) (view P s m history)
alone-from P s m [] fits = refl
alone-from P s m (entry ∷ history) fits =
    let one = follows P s m entry fits.0 in
    ap (λ first. first ++ handed_of P s (apply P m entry) history) one.hands
    ∙ ap (λ rest. solo P s (alone_at s m) (view_at P s m entry) ++ rest)
    (alone-from P s (apply P m entry) history fits.1
    ∙ ap (λ a. solo P s a (view P s (apply P m entry) history)) one.goes)
    ∙ sym (solo-append P s (alone_at s m) (view_at P s m entry) (view P s (apply P m entry) history))

-- before the first entry no session was attached, whatever its number
pub unborn-at : {C Q X : Type 0} → (s : ℕ) (c : C) (wait : Bool)
    → alone_at {C = C} {Q = Q} {X = X} s (begin c wait) ≡ unborn c wait
unborn-at zero c true = refl
unborn-at zero c false = refl
unborn-at (suc i) c true = refl
unborn-at (suc i) c false = refl

-- what a session is handed is what it would be handed alone
pub alone : {C T Q X : Type 0} → (P : Protocol C T Q X) (s : ℕ) (c : C) (wait : Bool) (history : List Entry)
    → FitsAll P (begin c wait) history
    → handed_of P s (begin c wait) history ≡ solo P s (unborn c wait) (view P s (begin c wait) history)
alone P s c wait history fits =
    alone-from P s (begin c wait) history fits
    ∙ ap (λ a. solo P s a (view P s (begin c wait) history)) (unborn-at s c wait)

-- a session is handed the same over two histories of which it sees the same
pub same-views : {C T Q X : Type 0} → (P : Protocol C T Q X) (s : ℕ) (c : C) (wait : Bool) (history other : List Entry)
    → FitsAll P (begin c wait) history → FitsAll P (begin c wait) other
    → view P s (begin c wait) history ≡ view P s (begin c wait) other
    → handed_of P s (begin c wait) history ≡ handed_of P s (begin c wait) other
same-views P s c wait history other fits fits_other same =
    alone P s c wait history fits
    ∙ ap (λ seen. solo P s (unborn c wait) seen) same
    ∙ sym (alone P s c wait other fits_other)
