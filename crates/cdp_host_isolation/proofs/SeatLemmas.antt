-- Seats by their numbers.
use Rattle.std.proofs.Common.{◌≡◌, ◌≢◌, ℕ, zero, suc, ◌+◌, List, [], ◌∷◌, ◌++◌, length, Bool, true, false, if◌then◌else◌, refl, ap, sym, arith}
use Rattle.cdp_host_isolation.specs.Seats.{each, fallen, is_listed, put, put_in, seat_in, seat_of, without, without_from}
use Rattle.cdp_host_isolation.specs.declared.seat.Seat.{Seat}
use Rattle.cdp_host_isolation.specs.declared.seat.Seat.TheVariants.{Left}

each-in : {X : Type 0} → (f : Seat X → Seat X) → f Left ≡ Left → (i : ℕ) (seats : List (Seat X))
    → seat_in i (each f seats) ≡ f (seat_in i seats)
each-in f is i [] = sym is
each-in f is zero (seat ∷ seats) = refl
each-in f is (suc i) (seat ∷ seats) = each-in f is i seats

pub each-at : {X : Type 0} → (f : Seat X → Seat X) → f Left ≡ Left → (s : ℕ) (seats : List (Seat X))
    → seat_of s (each f seats) ≡ f (seat_of s seats)
each-at f is zero seats = sym is
each-at f is (suc i) seats = each-in f is i seats

put-same-in : {X : Type 0} → (i : ℕ) (new : Seat X) (seats : List (Seat X)) → seat_in i seats ≢ Left
    → seat_in i (put_in i new seats) ≡ new
put-same-in i new [] there = absurd (there refl)
put-same-in zero new (seat ∷ seats) there = refl
put-same-in (suc i) new (seat ∷ seats) there = put-same-in i new seats there

pub put-same : {X : Type 0} → (s : ℕ) (new : Seat X) (seats : List (Seat X)) → seat_of s seats ≢ Left
    → seat_of s (put s new seats) ≡ new
put-same zero new seats there = absurd (there refl)
put-same (suc i) new seats there = put-same-in i new seats there

put-other-in : {X : Type 0} → (i j : ℕ) (new : Seat X) (seats : List (Seat X)) → i ≢ j
    → seat_in j (put_in i new seats) ≡ seat_in j seats
put-other-in i j new [] other = refl
put-other-in zero zero new (seat ∷ seats) other = absurd (other refl)
put-other-in zero (suc j) new (seat ∷ seats) other = refl
put-other-in (suc i) zero new (seat ∷ seats) other = refl
put-other-in (suc i) (suc j) new (seat ∷ seats) other =
    put-other-in i j new seats (λ same. other (ap (λ n. suc n) same))

pub put-other : {X : Type 0} → (r s : ℕ) (new : Seat X) (seats : List (Seat X)) → r ≢ s
    → seat_of s (put r new seats) ≡ seat_of s seats
put-other zero s new seats other = refl
put-other (suc i) zero new seats other = refl
put-other (suc i) (suc j) new seats other = put-other-in i j new seats (λ same. other (ap (λ n. suc n) same))

append-new-in : {X : Type 0} → (new : Seat X) (seats : List (Seat X)) → seat_in (length seats) (seats ++ new ∷ []) ≡ new
append-new-in new [] = refl
append-new-in new (seat ∷ seats) = append-new-in new seats

pub append-new : {X : Type 0} → (new : Seat X) (seats : List (Seat X))
    → seat_of (length seats + 1) (seats ++ new ∷ []) ≡ new
append-new new seats = let e : length seats + 1 ≡ suc (length seats) = omega arith in rw e (append-new-in new seats)

append-old-in : {X : Type 0} → (i : ℕ) (new : Seat X) (seats : List (Seat X)) → length seats ≢ i
    → seat_in i (seats ++ new ∷ []) ≡ seat_in i seats
append-old-in zero new [] other = absurd (other refl)
append-old-in (suc i) new [] other = refl
append-old-in zero new (seat ∷ seats) other = refl
append-old-in (suc i) new (seat ∷ seats) other = append-old-in i new seats (λ same. other (ap (λ n. suc n) same))

pub append-old : {X : Type 0} → (s : ℕ) (new : Seat X) (seats : List (Seat X)) → length seats + 1 ≢ s
    → seat_of s (seats ++ new ∷ []) ≡ seat_of s seats
append-old zero new seats other = refl
append-old (suc i) new seats other = append-old-in i new seats (λ same. other (omega (arith, same)))

same-choice : {X : Type 0} → (b : Bool) (x : Seat X) → x ≡ (if b then x else x)
same-choice true x = refl
same-choice false x = refl

without-in : {X : Type 0} → (gone : List ℕ) (first s i : ℕ) (seats : List (Seat X)) → s ≡ first + i
    → seat_in i (without_from gone first seats)
    ≡ (if is_listed gone s then fallen (seat_in i seats) else seat_in i seats)
without-in gone first s i [] is = same-choice (is_listed gone s) Left
without-in gone first s zero (seat ∷ seats) is = let e : first ≡ s = omega (arith, is) in rw e refl
without-in gone first s (suc i) (seat ∷ seats) is = without-in gone (first + 1) s i seats (omega (arith, is))

pub without-at : {X : Type 0} → (gone : List ℕ) (s : ℕ) (seats : List (Seat X))
    → seat_of s (without gone seats) ≡ (if is_listed gone s then fallen (seat_of s seats) else seat_of s seats)
without-at gone zero seats = same-choice (is_listed gone 0) Left
without-at gone (suc i) seats = without-in gone 1 (suc i) i seats (omega arith)
