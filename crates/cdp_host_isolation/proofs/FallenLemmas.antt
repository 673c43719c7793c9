-- Sessions that fell: their numbers, and the seats of a host without them.
use Rattle.std.proofs.Common.{◌≡◌, ◌<◌, ℕ, zero, suc, ◌+◌, List, [], ◌∷◌, Bool, true, false, ◌==◌, ◌||◌, if◌then◌else◌, refl, ap, sym, ◌∙◌, arith}
use Rattle.std.proofs.lemmas.Bool.{or_parts}
use Rattle.std.proofs.lemmas.Bool.Decides.{nat_tests}
use Rattle.cdp_host_isolation.specs.Seats.{fallen, is_listed, put, put_in, seat_in, seat_of, some, waits_for_report, without, without_from}
use Rattle.cdp_host_isolation.specs.Meanings.{Meaning, with_seats}
use Rattle.cdp_host_isolation.specs.Standing.{fallen_from, fallen_in, fell, less}
use Rattle.cdp_host_isolation.specs.Runs.{mid, mids}
use Rattle.cdp_host_isolation.specs.declared.seat.Loss.TheVariants.{Overrun, Memory}
use Rattle.cdp_host_isolation.specs.declared.seat.Seat.{Seat}
use Rattle.cdp_host_isolation.specs.declared.seat.Seat.TheVariants.{Attached, Lost, Left}

-- ---- numbers

below-differs : (r s : ℕ) → r < s → (s == r) ≡ false
below-differs r s small = grind (arith, nat_tests, small)

above-differs : (r s : ℕ) → r < s → (r == s) ≡ false
above-differs r s small = grind (arith, nat_tests, small)

pub itself : (s : ℕ) → (s == s) ≡ true
itself s = grind (arith, nat_tests)

unlisted-step : {X : Type 0}
    → (r s : ℕ) (news : List (Seat X)) (b : Bool)
    → r < s
    → is_listed (fallen_from (s + 1) news) r ≡ false
    → is_listed (if b then s ∷ fallen_from (s + 1) news else fallen_from (s + 1) news) r ≡ false
unlisted-step r s news true small later = rw (above-differs r s small) later
unlisted-step r s news false small later = later

-- the numbers of those that fell are none below the first one's
unlisted : {X : Type 0} → (r s : ℕ) (news : List (Seat X)) → r < s → is_listed (fallen_from s news) r ≡ false
unlisted r s [] small = refl
unlisted r s (new ∷ news) small =
    unlisted-step r s news (fell new) small (unlisted r (s + 1) news (omega (arith, small)))

-- a number below the first one's is nobody's
pub without-below : {X : Type 0} → (r s : ℕ) (numbers : List ℕ) (olds : List (Seat X)) → r < s
    → without_from (r ∷ numbers) s olds ≡ without_from numbers s olds
without-below r s numbers [] small = refl
without-below r s numbers (old ∷ olds) small =
    rw (below-differs r s small)
    (ap (λ rest. (if is_listed numbers s then fallen old else old) ∷ rest)
    (without-below r (s + 1) numbers olds (omega (arith, small))))

-- ---- seats without those that fell

without-none-from : {X : Type 0} → (s : ℕ) (seats : List (Seat X)) → without_from [] s seats ≡ seats
without-none-from s [] = refl
without-none-from s (seat ∷ seats) = ap (λ rest. seat ∷ rest) (without-none-from (s + 1) seats)

-- with none of them lost
pub without-none : {X : Type 0} → (seats : List (Seat X)) → without [] seats ≡ seats
without-none seats = without-none-from 1 seats

mids-step : {X : Type 0} → (s : ℕ) (old : Seat X) (olds news : List (Seat X)) (b : Bool)
    → mids olds news ≡ without_from (fallen_from (s + 1) news) (s + 1) olds
    → (if b then fallen old else old) ∷ mids olds news
    ≡ without_from (if b then s ∷ fallen_from (s + 1) news else fallen_from (s + 1) news) s (old ∷ olds)
mids-step s old olds news true later =
    rw (itself s)
    (ap (λ rest. fallen old ∷ rest)
    (later ∙ sym (without-below s (s + 1) (fallen_from (s + 1) news) olds (omega arith))))
mids-step s old olds news false later =
    rw (unlisted s (s + 1) news (omega arith)) (ap (λ rest. old ∷ rest) later)

mids-from : {X : Type 0}
    → (s : ℕ) (olds news : List (Seat X))
    → mids olds news ≡ without_from (fallen_from s news) s olds
mids-from s [] news = refl
mids-from s (old ∷ olds) [] = sym (without-none-from s (old ∷ olds))
mids-from s (old ∷ olds) (new ∷ news) = mids-step s old olds news (fell new) (mids-from (s + 1) olds news)

-- seats without those that fell elsewhere, however many are there
pub mids-less : {X : Type 0} → (olds news : List (Seat X)) → mids olds news ≡ without (fallen_in news) olds
mids-less olds news = mids-from 1 olds news

-- a session falls once
pub fallen-twice : {X : Type 0} → (seat : Seat X) → fallen (fallen seat) ≡ fallen seat
fallen-twice (Attached x) = refl
fallen-twice (Lost loss is_reported is_told) = refl
fallen-twice Left = refl

pub mid-self : {X : Type 0} → (seat : Seat X) → mid seat seat ≡ seat
mid-self (Attached x) = refl
mid-self (Lost Overrun is_reported is_told) = refl
mid-self (Lost Memory true is_told) = refl
mid-self (Lost Memory false is_told) = refl
mid-self Left = refl

pub mids-self : {X : Type 0} → (seats : List (Seat X)) → mids seats seats ≡ seats
mids-self [] = refl
mids-self (seat ∷ seats) = rw (mid-self seat) (ap (λ rest. seat ∷ rest) (mids-self seats))

-- those that fell are lost already
pub less-self : {C Q X : Type 0} → (m : Meaning C Q X) → less m.seats m ≡ m
less-self m = ap (λ seats. with_seats seats m) (sym (mids-less m.seats m.seats) ∙ mids-self m.seats)

-- ---- where none fell

fallen-none-from : {X : Type 0} → (s : ℕ) (seats : List (Seat X)) → some fell seats ≡ false → fallen_from s seats ≡ []
fallen-none-from s [] none = refl
fallen-none-from s (seat ∷ seats) none =
    let parts = or_parts (fell seat) (some fell seats) none in
    rw parts.0 (fallen-none-from (s + 1) seats parts.1)

-- where no seat fell, there is no number
pub fallen-none : {X : Type 0} → (seats : List (Seat X)) → some fell seats ≡ false → fallen_in seats ≡ []
fallen-none seats none = fallen-none-from 1 seats none

none-step : {X : Type 0} → (s : ℕ) (seats : List (Seat X)) (b : Bool)
    → (if b then s ∷ fallen_from (s + 1) seats else fallen_from (s + 1) seats) ≡ []
    → (fallen_from (s + 1) seats ≡ [] → some fell seats ≡ false) → (b || some fell seats) ≡ false
none-step s seats true is later = cc
none-step s seats false is later = later is

none-fallen-from : {X : Type 0} → (s : ℕ) (seats : List (Seat X)) → fallen_from s seats ≡ [] → some fell seats ≡ false
none-fallen-from s [] is = refl
none-fallen-from s (seat ∷ seats) is = none-step s seats (fell seat) is (λ later. none-fallen-from (s + 1) seats later)

-- and where there is no number, none fell
pub none-fallen : {X : Type 0} → (seats : List (Seat X)) → fallen_in seats ≡ [] → some fell seats ≡ false
none-fallen seats is = none-fallen-from 1 seats is

waits-fell : {X : Type 0} → (seat : Seat X) → waits_for_report seat ≡ false → fell seat ≡ false
waits-fell (Attached x) is = refl
waits-fell (Lost Overrun is_reported is_told) is = refl
waits-fell (Lost Memory true is_told) is = refl
waits-fell (Lost Memory false is_told) is = cc
waits-fell Left is = refl

waits-none : {X : Type 0} → (seats : List (Seat X)) → some waits_for_report seats ≡ false → some fell seats ≡ false
waits-none [] none = refl
waits-none (seat ∷ seats) none =
    let parts = or_parts (waits_for_report seat) (some waits_for_report seats) none in
    rw (waits-fell seat parts.0) (waits-none seats parts.1)

-- one that fell waits for a run that reports it
pub waits-fallen : {X : Type 0} → (seats : List (Seat X)) → some waits_for_report seats ≡ false → fallen_in seats ≡ []
waits-fallen seats none = fallen-none seats (waits-none seats none)

-- ---- one seat

fell-in : {X : Type 0} → (i : ℕ) (seats : List (Seat X)) → some fell seats ≡ false → fell (seat_in i seats) ≡ false
fell-in i [] none = refl
fell-in zero (seat ∷ seats) none = (or_parts (fell seat) (some fell seats) none).0
fell-in (suc i) (seat ∷ seats) none = fell-in i seats (or_parts (fell seat) (some fell seats) none).1

-- where none fell, this one didn't
pub fell-at : {X : Type 0} → (s : ℕ) (seats : List (Seat X)) → some fell seats ≡ false → fell (seat_of s seats) ≡ false
fell-at zero seats none = refl
fell-at (suc i) seats none = fell-in i seats none

fell-put-in : {X : Type 0} → (i : ℕ) (new : Seat X) (seats : List (Seat X)) → fell new ≡ false → some fell seats ≡ false
    → some fell (put_in i new seats) ≡ false
fell-put-in i new [] stands none = refl
fell-put-in zero new (seat ∷ seats) stands none = rw stands ((or_parts (fell seat) (some fell seats) none).1)
fell-put-in (suc i) new (seat ∷ seats) stands none =
    let parts = or_parts (fell seat) (some fell seats) none in
    rw parts.0 (fell-put-in i new seats stands parts.1)

-- with another seat that didn't fall
pub fell-put : {X : Type 0}
    → (s : ℕ) (new : Seat X) (seats : List (Seat X))
    → fell new ≡ false
    → some fell seats ≡ false
    → some fell (put s new seats) ≡ false
fell-put zero new seats stands none = none
fell-put (suc i) new seats stands none = fell-put-in i new seats stands none
