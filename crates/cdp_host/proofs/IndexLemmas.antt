-- The index of places beside the seats of a host.
use Rattle.std.proofs.Common.{◌≡◌, ◌≢◌, ℕ, zero, suc, ◌+◌, ◌<◌, ◌≤◌, Bool, true, false, not, ◌&&◌, List, [], ◌∷◌, ◌++◌, length, take, nat_eq, slice_index_or, refl, ap, sym, subst, ◌∙◌, arith}
use Rattle.std.proofs.lemmas.Bool.{and_parts, and_right, eqb-false, eqb-true}
use Rattle.std.proofs.lemmas.List.{take_all}
use Rattle.std.specs.List.{list_any}
use Rattle.cdp_text.specs.declared.position.Place.{Place}
use Rattle.cdp_host_isolation.specs.Seats.{each, is_attached, put, put_in, reported, seat_in, seat_of, some, waits_for_report}
use Rattle.cdp_host_isolation.specs.declared.seat.Seat.{Seat}
use Rattle.cdp_host_isolation.specs.declared.seat.Seat.TheVariants.{Attached, Lost, Left}
use Rattle.cdp_host_isolation.proofs.BrokenLemmas.{none-at}
use Rattle.cdp_host_isolation.proofs.SeatLemmas.{each-at, put-other}
use Rattle.breakpoints.specs.Hits.{same_place, stands_at}
use Rattle.breakpoints.specs.PlaceIndex.{holds, is_of_another, is_pair, without_session}
use Rattle.breakpoints.specs.declared.holding.Holding.{Holding}
use Rattle.breakpoints.proofs.ListLemmas.{any-filter, filter-twice}
use Rattle.cdp_host_seats.specs.Losses.{owner_told}
use Rattle.cdp_host_isolation.specs.declared.seat.Loss.TheVariants.{Overrun, Memory}
use Rattle.cdp_session.specs.Sessions.{Session, emptied}
use Rattle.cdp_host.specs.Indexing.{ForgetsLost, IsIndexOf, IsIndexedAs, stands_in}

-- ---- the places of one session

and_true : (b : Bool) → (b && true) ≡ b
and_true true = refl
and_true false = refl

-- without a session's places all others have theirs
pub holds-forgotten : (r s : ℕ) (place : Place) (index : List Holding)
    → holds r place (without_session s index) ≡ (holds r place index && not (nat_eq r s))
holds-forgotten r s place index =
    any-filter (is_pair r place) (is_of_another s) (not (nat_eq r s))
    (λ h is. let same = (and_parts (same_place h.place place) (nat_eq r h.session) is).1 in
    ap (λ n. not (nat_eq n s)) (sym (eqb-true r h.session same)))
    index

forgotten-by : (r s : ℕ) (place : Place) (index : List Holding) (b : Bool)
    → nat_eq r s ≡ b
    → holds r place (without_session s index) ≡ (holds r place index && not b)
forgotten-by r s place index b is =
    holds-forgotten r s place index ∙ ap (λ c. holds r place index && not c) is

-- the session itself has none then
pub own-forgotten : (s : ℕ) (place : Place) (index : List Holding) → holds s place (without_session s index) ≡ false
own-forgotten s place index = own (nat_eq s s) refl
  where
    own : (b : Bool) → nat_eq s s ≡ b → holds s place (without_session s index) ≡ false
    own true is = forgotten-by s s place index true is ∙ and_right (holds s place index) false refl
    own false is = absurd (eqb-false s s is refl)

other-forgotten : (r s : ℕ) (place : Place) (index : List Holding)
    → nat_eq r s ≡ false
    → holds r place (without_session s index) ≡ holds r place index
other-forgotten r s place index is =
    forgotten-by r s place index false is ∙ and_true (holds r place index)

-- where the places of one session change, all others have theirs
pub others-hold : (r s : ℕ) (place : Place) (old new : List Holding)
    → without_session s new ≡ without_session s old
    → nat_eq r s ≡ false
    → holds r place new ≡ holds r place old
others-hold r s place old new same is =
    sym (other-forgotten r s place new is) ∙ ap (holds r place) same ∙ other-forgotten r s place old is

pub forgotten-twice : (s : ℕ) (index : List Holding)
    → without_session s (without_session s index) ≡ without_session s index
forgotten-twice s index = filter-twice (is_of_another s) (is_of_another s) (λ h is. is) index

-- ---- seats that stay

-- seats at which the same breakpoints stand
pub same-indexed : (olds news : List (Seat Session)) (index : List Holding)
    → ((s : ℕ) (place : Place) → stands_in place (seat_of s news) ≡ stands_in place (seat_of s olds))
    → IsIndexOf olds index
    → IsIndexOf news index
same-indexed olds news index same indexed = record { exact = λ s place. indexed.exact s place ∙ sym (same s place) }

attached-in : (x : Session) (i : ℕ) (seats : List (Seat Session)) (place : Place)
    → x.breakpoints.set ≡ []
    → stands_in place (seat_in i (seats ++ Attached x ∷ [])) ≡ stands_in place (seat_in i seats)
attached-in x zero [] place none = ap (λ bs. list_any (stands_at place) bs) none
attached-in x (suc i) [] place none = refl
attached-in x zero (seat ∷ seats) place none = refl
attached-in x (suc i) (seat ∷ seats) place none = attached-in x i seats place none

attached-at : (x : Session) (s : ℕ) (seats : List (Seat Session)) (place : Place)
    → x.breakpoints.set ≡ []
    → stands_in place (seat_of s (seats ++ Attached x ∷ [])) ≡ stands_in place (seat_of s seats)
attached-at x zero seats place none = refl
attached-at x (suc i) seats place none = attached-in x i seats place none

-- a session more, which has no breakpoints
pub attached-indexed : (x : Session) (seats news : List (Seat Session)) (index : List Holding)
    → x.breakpoints.set ≡ []
    → news ≡ seats ++ Attached x ∷ []
    → IsIndexOf seats index
    → IsIndexOf news index
attached-indexed x seats news index none is indexed =
    subst (λ ss. IsIndexOf ss index) (sym is)
    (same-indexed seats (seats ++ Attached x ∷ []) index (λ s place. attached-at x s seats place none) indexed)

put-in-stands : (i j : ℕ) (new : Seat Session) (seats : List (Seat Session)) (place : Place)
    → stands_in place new ≡ stands_in place (seat_in i seats)
    → stands_in place (seat_in j (put_in i new seats)) ≡ stands_in place (seat_in j seats)
put-in-stands i j new [] place same = refl
put-in-stands zero zero new (seat ∷ seats) place same = same
put-in-stands zero (suc j) new (seat ∷ seats) place same = refl
put-in-stands (suc i) zero new (seat ∷ seats) place same = refl
put-in-stands (suc i) (suc j) new (seat ∷ seats) place same = put-in-stands i j new seats place same

put-stands : (r s : ℕ) (new : Seat Session) (seats : List (Seat Session)) (place : Place)
    → stands_in place new ≡ stands_in place (seat_of r seats)
    → stands_in place (seat_of s (put r new seats)) ≡ stands_in place (seat_of s seats)
put-stands zero s new seats place same = refl
put-stands (suc i) zero new seats place same = refl
put-stands (suc i) (suc j) new seats place same = put-in-stands i j new seats place same

-- a seat at which the same breakpoints stand
pub put-indexed : (s : ℕ) (new : Seat Session) (seats news : List (Seat Session)) (index : List Holding)
    → ((place : Place) → stands_in place new ≡ stands_in place (seat_of s seats))
    → news ≡ put s new seats
    → IsIndexOf seats index
    → IsIndexOf news index
put-indexed s new seats news index same is indexed =
    subst (λ ss. IsIndexOf ss index) (sym is)
    (same-indexed seats (put s new seats) index (λ r place. put-stands s r new seats place (same place)) indexed)

-- a session whose texts were taken has its breakpoints
pub taken-stands : (place : Place) (seat : Seat Session) (x : Session)
    → seat ≡ Attached x
    → stands_in place (Attached (emptied x)) ≡ stands_in place seat
taken-stands place seat x is = ap (stands_in place) (sym is)

-- what an owner is told changes nothing of that
pub told-stands : (place : Place) (seat : Seat Session) → stands_in place (owner_told seat) ≡ stands_in place seat
told-stands place (Attached x) = refl
told-stands place (Lost Overrun is_reported is_told) = refl
told-stands place (Lost Memory true is_told) = refl
told-stands place (Lost Memory false is_told) = refl
told-stands place Left = refl

reported-stands : (place : Place) (seat : Seat Session) → stands_in place (reported seat) ≡ stands_in place seat
reported-stands place (Attached x) = refl
reported-stands place (Lost loss is_reported is_told) = refl
reported-stands place Left = refl

-- nor does a report
pub reported-indexed : (seats news : List (Seat Session)) (index : List Holding)
    → news ≡ each reported seats
    → IsIndexOf seats index
    → IsIndexOf news index
reported-indexed seats news index is indexed =
    subst (λ ss. IsIndexOf ss index) (sym is)
    (same-indexed seats (each reported seats) index
    (λ s place. ap (stands_in place) (each-at reported refl s seats) ∙ reported-stands place (seat_of s seats)) indexed)

gone-stands : (place : Place) (seat : Seat Session) → is_attached seat ≡ false → stands_in place seat ≡ false
gone-stands place (Attached x) gone = absurd cc
gone-stands place (Lost loss is_reported is_told) gone = refl
gone-stands place Left gone = refl

-- where nobody is attached, there are no places
pub gone-indexed : (seats : List (Seat Session)) (index : List Holding)
    → some is_attached seats ≡ false
    → index ≡ []
    → IsIndexOf seats index
gone-indexed seats index gone no_index =
    let empty : IsIndexOf seats [] = record {
      exact = λ s place. sym (gone-stands place (seat_of s seats) (none-at s seats gone));
    } in
    subst (λ hs. IsIndexOf seats hs) (sym no_index) empty

-- ---- one session

put-left-in : (i : ℕ) (seats : List (Seat Session)) → seat_in i (put_in i Left seats) ≡ Left
put-left-in i [] = refl
put-left-in zero (seat ∷ seats) = refl
put-left-in (suc i) (seat ∷ seats) = put-left-in i seats

put-left : (s : ℕ) (seats : List (Seat Session)) → seat_of s (put s Left seats) ≡ Left
put-left zero seats = refl
put-left (suc i) seats = put-left-in i seats

-- another seat, where the index has its places, and for all others what it had
pub changed-indexed : (s : ℕ) (new : Seat Session) (seats news : List (Seat Session)) (old index : List Holding)
    → news ≡ put s new seats
    → IsIndexedAs s (seat_of s news) index
    → without_session s index ≡ without_session s old
    → IsIndexOf seats old
    → IsIndexOf news index
changed-indexed s new seats news old index is own others indexed =
    record { exact = λ r place. at r place (nat_eq r s) refl }
  where
    at : (r : ℕ) (place : Place) (b : Bool)
        → nat_eq r s ≡ b
        → holds r place index ≡ stands_in place (seat_of r news)
    at r place true same =
        subst (λ n. holds n place index ≡ stands_in place (seat_of n news)) (sym (eqb-true r s same)) (own place)
    at r place false other =
        others-hold r s place old index others other
        ∙ indexed.exact r place
        ∙ ap (stands_in place) (sym (ap (seat_of r) is
        ∙ put-other s r new seats (λ same. eqb-false r s other (sym same))))

-- a session that leaves takes its places along
pub left-indexed : (s : ℕ) (seats news : List (Seat Session)) (index : List Holding)
    → news ≡ put s Left seats
    → IsIndexOf seats index
    → IsIndexOf news (without_session s index)
left-indexed s seats news index is indexed =
    changed-indexed s Left seats news index (without_session s index) is
    (λ place. own-forgotten s place index ∙ sym (ap (stands_in place) (ap (seat_of s) is ∙ put-left s seats)))
    (forgotten-twice s index) indexed

-- ---- sessions that were lost

-- a session that isn't newly lost has the places that it had
abbrev pub KeepsPlaces : Seat Session → Seat Session → Type 0
KeepsPlaces old new = (place : Place) → stands_in place new ≡ (stands_in place old && not (waits_for_report new))

pub lost-indexed : (olds news : List (Seat Session)) (old new : List Holding)
    → ((s : ℕ) → KeepsPlaces (seat_of s olds) (seat_of s news))
    → ForgetsLost news old new
    → IsIndexOf olds old
    → IsIndexOf news new
lost-indexed olds news old new keeps forgets indexed = record {
  exact =
      λ s place. forgets s place
      ∙ ap (λ b. b && not (waits_for_report (seat_of s news))) (indexed.exact s place)
      ∙ sym (keeps s place);
}

-- ---- one seat after another

nothing-forgotten : (s : ℕ) (place : Place) (seats : List (Seat Session)) (index : List Holding)
    → holds s place index ≡ (holds s place index && not (waits_for_report (seat_of s (take 0 seats))))
nothing-forgotten zero place seats index = sym (and_true (holds zero place index))
nothing-forgotten (suc i) place seats index = sym (and_true (holds (suc i) place index))

-- at first none was forgotten
pub forgets-none : (seats : List (Seat Session)) (index : List Holding) → ForgetsLost (take 0 seats) index index
forgets-none seats index = λ s place. nothing-forgotten s place seats index

taken-last : (i : ℕ) (seats : List (Seat Session)) (d : Seat Session)
    → i < length seats
    → seat_in i (take (suc i) seats) ≡ slice_index_or seats i d
taken-last i [] d small = absurd (omega (arith, small))
taken-last zero (seat ∷ seats) d small = refl
taken-last (suc i) (seat ∷ seats) d small = taken-last i seats d (omega (arith, small))

taken-behind : (i : ℕ) (seats : List (Seat Session)) → seat_in i (take i seats) ≡ Left
taken-behind zero seats = refl
taken-behind (suc i) [] = refl
taken-behind (suc i) (seat ∷ seats) = taken-behind i seats

taken-in : (i j : ℕ) (seats : List (Seat Session)) → i ≢ j → seat_in j (take (suc i) seats) ≡ seat_in j (take i seats)
taken-in zero zero seats other = absurd (other refl)
taken-in zero (suc j) [] other = refl
taken-in zero (suc j) (seat ∷ seats) other = refl
taken-in (suc i) j [] other = refl
taken-in (suc i) zero (seat ∷ seats) other = refl
taken-in (suc i) (suc j) (seat ∷ seats) other = taken-in i j seats (λ same. other (ap (λ n. suc n) same))

taken-other : (i s : ℕ) (seats : List (Seat Session))
    → s ≢ suc i
    → seat_of s (take (suc i) seats) ≡ seat_of s (take i seats)
taken-other i zero seats other = refl
taken-other i (suc j) seats other = taken-in i j seats (λ same. other (ap (λ n. suc n) (sym same)))

-- the session at the next place has nothing more, if it was lost, and else what it had
own-next : (i : ℕ) (place : Place) (seats : List (Seat Session)) (d : Seat Session) (old now new : List Holding) (w : Bool)
    → i < length seats
    → ForgetsLost (take i seats) old now
    → waits_for_report (slice_index_or seats i d) ≡ w
    → (w ≡ true → new ≡ without_session (suc i) now)
    → (w ≡ false → new ≡ now)
    → holds (suc i) place new
    ≡ (holds (suc i) place old && not (waits_for_report (seat_of (suc i) (take (suc i) seats))))
own-next i place seats d old now new true small before is lost kept =
    ap (holds (suc i) place) (lost refl)
    ∙ own-forgotten (suc i) place now
    ∙ sym
    (ap (λ seat. holds (suc i) place old && not (waits_for_report seat)) (taken-last i seats d small)
    ∙ ap (λ b. holds (suc i) place old && not b) is
    ∙ and_right (holds (suc i) place old) false refl)
own-next i place seats d old now new false small before is lost kept =
    ap (holds (suc i) place) (kept refl)
    ∙ before (suc i) place
    ∙ ap (λ seat. holds (suc i) place old && not (waits_for_report seat)) (taken-behind i seats)
    ∙ sym
    (ap (λ seat. holds (suc i) place old && not (waits_for_report seat)) (taken-last i seats d small)
    ∙ ap (λ b. holds (suc i) place old && not b) is)

-- all others have what they had
other-next : (i s : ℕ) (place : Place) (now new : List Holding) (w : Bool)
    → nat_eq s (suc i) ≡ false
    → (w ≡ true → new ≡ without_session (suc i) now)
    → (w ≡ false → new ≡ now)
    → holds s place new ≡ holds s place now
other-next i s place now new true other lost kept =
    ap (holds s place) (lost refl) ∙ other-forgotten s (suc i) place now other
other-next i s place now new false other lost kept = ap (holds s place) (kept refl)

forgets-next : (i : ℕ) (seats : List (Seat Session)) (d : Seat Session) (old now new : List Holding)
    → i < length seats
    → ForgetsLost (take i seats) old now
    → (waits_for_report (slice_index_or seats i d) ≡ true → new ≡ without_session (suc i) now)
    → (waits_for_report (slice_index_or seats i d) ≡ false → new ≡ now)
    → ForgetsLost (take (suc i) seats) old new
forgets-next i seats d old now new small before lost kept = λ s place. at s place (nat_eq s (suc i)) refl
  where
    at : (s : ℕ) (place : Place) (b : Bool)
        → nat_eq s (suc i) ≡ b
        → holds s place new ≡ (holds s place old && not (waits_for_report (seat_of s (take (suc i) seats))))
    at s place true same =
        subst (λ n. holds n place new ≡ (holds n place old && not (waits_for_report (seat_of n (take (suc i) seats)))))
        (sym (eqb-true s (suc i) same))
        (own-next i place seats d old now new (waits_for_report (slice_index_or seats i d)) small before refl lost kept)
    at s place false other =
        other-next i s place now new (waits_for_report (slice_index_or seats i d)) other lost kept
        ∙ before s place
        ∙ ap (λ seat. holds s place old && not (waits_for_report seat))
        (sym (taken-other i s seats (eqb-false s (suc i) other)))

-- the places of the next one are forgotten, if it was lost
pub forgets-more : (i : ℕ) (seats : List (Seat Session)) (d : Seat Session) (old now new : List Holding)
    → i < length seats
    → ForgetsLost (take i seats) old now
    → (waits_for_report (slice_index_or seats i d) ≡ true → new ≡ without_session (i + 1) now)
    → (waits_for_report (slice_index_or seats i d) ≡ false → new ≡ now)
    → ForgetsLost (take (i + 1) seats) old new
forgets-more i seats d old now new small before lost kept =
    let e : i + 1 ≡ suc i = omega arith in
    subst (λ n. ForgetsLost (take n seats) old new) (sym e)
    (forgets-next i seats d old now new small before
    (λ is. lost is ∙ ap (λ n. without_session n now) e) kept)

-- all were
pub forgets-done : (i : ℕ) (seats : List (Seat Session)) (old new : List Holding)
    → length seats ≤ i
    → ForgetsLost (take i seats) old new
    → ForgetsLost seats old new
forgets-done i seats old new done forgets =
    subst (λ ss. ForgetsLost ss old new) (take_all i seats done) forgets
