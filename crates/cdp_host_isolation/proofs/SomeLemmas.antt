-- Loops that look for a seat of some kind, or for a flag that is set.
use Rattle.std.proofs.Common.{◌≡◌, ℕ, zero, suc, ◌+◌, ◌<◌, ◌≤◌, List, [], ◌∷◌, length, take, Bool, true, false, ◌||◌, refl, ap, sym, ◌∙◌, arith, slice_index_or}
use Rattle.std.proofs.lemmas.Bool.{or_parts, or_from, or_right}
use Rattle.cdp_host_isolation.specs.Passes.{any_set}
use Rattle.cdp_host_isolation.specs.Seats.{some}
use Rattle.cdp_host_isolation.specs.declared.seat.Seat.{Seat}

-- ---- seats

-- one is found
pub some-found : {X : Type 0}
    → (f : Seat X → Bool) (i : ℕ) (seats : List (Seat X)) (d : Seat X)
    → i < length seats
    → f (slice_index_or seats i d) ≡ true
    → some f seats ≡ true
some-found f i [] d small is = absurd (omega (arith, small))
some-found f zero (seat ∷ seats) d small is = ap (λ b. b || some f seats) is
some-found f (suc i) (seat ∷ seats) d small is =
    ap (λ b. f seat || b) (some-found f i seats d (omega (arith, small)) is) ∙ or_right (f seat) true refl

-- one more isn't
none_next : {X : Type 0} → (f : Seat X → Bool) (i : ℕ) (seats : List (Seat X)) (d : Seat X)
    → i < length seats
    → some f (take i seats) ≡ false
    → f (slice_index_or seats i d) ≡ false
    → some f (take (suc i) seats) ≡ false
none_next f i [] d small before is = absurd (omega (arith, small))
none_next f zero (seat ∷ seats) d small before is = or_from (f seat) false is refl
none_next f (suc i) (seat ∷ seats) d small before is =
    let parts = or_parts (f seat) (some f (take i seats)) before in
    or_from (f seat) (some f (take (suc i) seats)) parts.0 (none_next f i seats d (omega (arith, small)) parts.1 is)

pub none-more : {X : Type 0} → (f : Seat X → Bool) (i : ℕ) (seats : List (Seat X)) (d : Seat X)
    → i < length seats
    → some f (take i seats) ≡ false
    → f (slice_index_or seats i d) ≡ false
    → some f (take (i + 1) seats) ≡ false
none-more f i seats d small before is =
    let e : suc i ≡ i + 1 = omega arith in
    ap (λ n. some f (take n seats)) (sym e) ∙ none_next f i seats d small before is

-- none is
pub none-done : {X : Type 0}
    → (f : Seat X → Bool) (i : ℕ) (seats : List (Seat X))
    → length seats ≤ i
    → some f (take i seats) ≡ false
    → some f seats ≡ false
none-done f i [] done before = refl
none-done f zero (seat ∷ seats) done before = absurd (omega (arith, done))
none-done f (suc i) (seat ∷ seats) done before =
    let parts = or_parts (f seat) (some f (take i seats)) before in
    or_from (f seat) (some f seats) parts.0 (none-done f i seats (omega (arith, done)) parts.1)

-- ---- flags

pub set-found : (i : ℕ) (flags : List Bool) (d : Bool)
    → i < length flags
    → slice_index_or flags i d ≡ true
    → any_set flags ≡ true
set-found i [] d small is = absurd (omega (arith, small))
set-found zero (flag ∷ flags) d small is = ap (λ b. b || any_set flags) is
set-found (suc i) (flag ∷ flags) d small is =
    ap (λ b. flag || b) (set-found i flags d (omega (arith, small)) is) ∙ or_right flag true refl

unset_next : (i : ℕ) (flags : List Bool) (d : Bool)
    → i < length flags
    → any_set (take i flags) ≡ false
    → slice_index_or flags i d ≡ false
    → any_set (take (suc i) flags) ≡ false
unset_next i [] d small before is = absurd (omega (arith, small))
unset_next zero (flag ∷ flags) d small before is = or_from flag false is refl
unset_next (suc i) (flag ∷ flags) d small before is =
    let parts = or_parts flag (any_set (take i flags)) before in
    or_from flag (any_set (take (suc i) flags)) parts.0 (unset_next i flags d (omega (arith, small)) parts.1 is)

pub unset-more : (i : ℕ) (flags : List Bool) (d : Bool)
    → i < length flags
    → any_set (take i flags) ≡ false
    → slice_index_or flags i d ≡ false
    → any_set (take (i + 1) flags) ≡ false
unset-more i flags d small before is =
    let e : suc i ≡ i + 1 = omega arith in
    ap (λ n. any_set (take n flags)) (sym e) ∙ unset_next i flags d small before is

pub unset-done : (i : ℕ) (flags : List Bool) → length flags ≤ i → any_set (take i flags) ≡ false → any_set flags ≡ false
unset-done i [] done before = refl
unset-done zero (flag ∷ flags) done before = absurd (omega (arith, done))
unset-done (suc i) (flag ∷ flags) done before =
    let parts = or_parts flag (any_set (take i flags)) before in
    or_from flag (any_set flags) parts.0 (unset-done i flags (omega (arith, done)) parts.1)
