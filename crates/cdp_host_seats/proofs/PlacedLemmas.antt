-- One seat among others: where it stands, and what a change of it keeps.
use Rattle.std.proofs.Common.{◌≡◌, ℕ, zero, suc, ◌-◌, ◌<◌, ◌≤◌, List, [], ◌∷◌, ◌++◌, length, take, slice_index_or, slice_set, refl, ap, sym, ◌∙◌, arith}
use Rattle.cdp_host_isolation.specs.Seats.{put, put_in, seat_in, seat_of}
use Rattle.cdp_host_isolation.specs.declared.seat.Seat.{Seat}
use Rattle.cdp_host_isolation.specs.declared.seat.Seat.TheVariants.{Left}
use Rattle.cdp_host_seats.specs.Places.{IsPlace}
use Rattle.cdp_host_isolation.proofs.TextLemmas.{put-length}

-- ---- where it stands

index-in : {X : Type 0}
    → (i : ℕ) (seats : List (Seat X)) (d : Seat X)
    → i < length seats
    → slice_index_or seats i d ≡ seat_in i seats
index-in i [] d within = absurd (omega (arith, within))
index-in zero (seat ∷ seats) d within = refl
index-in (suc i) (seat ∷ seats) d within = index-in i seats d (omega (arith, within))

set-in : {X : Type 0} → (i : ℕ) (seats : List (Seat X)) (new : Seat X) → slice_set seats i new ≡ put_in i new seats
set-in i [] new = refl
set-in zero (seat ∷ seats) new = refl
set-in (suc i) (seat ∷ seats) new = ap (λ rest. seat ∷ rest) (set-in i seats new)

none-in : {X : Type 0} → (i : ℕ) (seats : List (Seat X)) → length seats ≤ i → seat_in i seats ≡ Left
none-in i [] far = refl
none-in zero (seat ∷ seats) far = absurd (omega (arith, far))
none-in (suc i) (seat ∷ seats) far = none-in i seats (omega (arith, far))

place-at : {X : Type 0}
    → (s i : ℕ) (seats : List (Seat X)) → s ≡ suc i → i < length seats → IsPlace s i seats
place-at s i seats is within = record {
  within = within;
  is = λ d. index-in i seats d within ∙ ap (λ n. seat_of n seats) (sym is);
  puts = λ new. set-in i seats new ∙ ap (λ n. put n new seats) (sym is);
}

-- the place of the seat of a session whose number isn't 0
pub placed : {X : Type 0}
    → (s i : ℕ) (seats : List (Seat X)) → 1 ≤ s → i ≡ s - 1 → i < length seats → IsPlace s i seats
placed s i seats counts is within = place-at s i seats (omega (arith, counts, is)) within

-- behind the last one is nobody's
pub unplaced : {X : Type 0} → (s i : ℕ) (seats : List (Seat X)) → i ≡ s - 1 → length seats ≤ i → seat_of s seats ≡ Left
unplaced zero i seats is far = refl
unplaced (suc n) i seats is far = none-in n seats (omega (arith, is, far))

-- ---- the seat that was there

put-in-self : {X : Type 0} → (i : ℕ) (seats : List (Seat X)) → put_in i (seat_in i seats) seats ≡ seats
put-in-self i [] = refl
put-in-self zero (seat ∷ seats) = refl
put-in-self (suc i) (seat ∷ seats) = ap (λ rest. seat ∷ rest) (put-in-self i seats)

pub put-self : {X : Type 0} → (s : ℕ) (seats : List (Seat X)) → put s (seat_of s seats) seats ≡ seats
put-self zero seats = refl
put-self (suc i) seats = put-in-self i seats

-- nothing is put where this seat is there already
pub put-same : {X : Type 0}
    → (s : ℕ) (seat : Seat X) (seats : List (Seat X))
    → seat_of s seats ≡ seat
    → put s seat seats ≡ seats
put-same s seat seats is = ap (λ x. put s x seats) (sym is) ∙ put-self s seats

-- ---- how many there are

-- as many as were lent are given back
pub given-back : {A : Type 0} → (n : ℕ) (news rest : List A) → n ≡ length news → take n (news ++ rest) ≡ news
given-back zero [] rest is = refl
given-back (suc n) [] rest is = absurd (omega (arith, is))
given-back zero (new ∷ news) rest is = absurd (omega (arith, is))
given-back (suc n) (new ∷ news) rest is = ap (λ more. new ∷ more) (given-back n news rest (omega (arith, is)))

pub put-back : {X : Type 0}
    → (n s : ℕ) (new : Seat X) (seats news rest : List (Seat X))
    → n ≡ length seats
    → news ≡ put s new seats
    → take n (news ++ rest) ≡ put s new seats
put-back n s new seats news rest full is =
    given-back n news rest (full ∙ sym (put-length s new seats) ∙ sym (ap length is)) ∙ is
