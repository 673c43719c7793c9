-- What one more turn of a loop over the seats gives, and what the last one leaves.
use Rattle.std.proofs.Common.{◌≡◌, ◌<◌, ◌≤◌, ℕ, zero, suc, ◌+◌, List, [], ◌∷◌, length, Bool, slice_set, slice_index_or, refl, ap, subst, arith}
use Rattle.cdp_host_isolation.specs.Passes.{GoesAlong, GoesOn, Over, OverAll}
use Rattle.cdp_host_isolation.specs.declared.seat.Seat.{Seat}

-- ---- one seat after another, whose flags are there

along-first : {X : Type 0}
    → (R : Seat X → Seat X → Bool → Type 0) (olds news : List (Seat X)) (flags : List Bool) (d new : Seat X) (e : Bool)
    → news ≡ olds → 0 < length news → 0 < length flags → R (slice_index_or news 0 d) new (slice_index_or flags 0 e)
    → GoesAlong R (suc zero) olds (slice_set news 0 new) flags
along-first R olds [] flags d new e same small few r = absurd (omega (arith, small))
along-first R [] (here ∷ news) flags d new e same small few r = absurd cc
along-first R (old ∷ olds) (here ∷ news) [] d new e same small few r = absurd (omega (arith, few))
along-first R (old ∷ olds) (here ∷ news) (flag ∷ flags) d new e same small few r =
    let first : here ≡ old = cc in
    let rest : news ≡ olds = cc in
    (subst (λ seat. R seat new flag) first r, rest)

along-step : {X : Type 0}
    → (R : Seat X → Seat X → Bool → Type 0) (i : ℕ) (olds news : List (Seat X)) (flags : List Bool) (d new : Seat X)
    (e : Bool)
    → GoesAlong R i olds news flags
    → i < length news
    → i < length flags
    → R (slice_index_or news i d) new (slice_index_or flags i e)
    → GoesAlong R (suc i) olds (slice_set news i new) flags
along-step R zero olds news flags d new e goes small few r = along-first R olds news flags d new e goes small few r
along-step R (suc i) [] news flags d new e goes small few r = absurd goes
along-step R (suc i) (old ∷ olds) [] flags d new e goes small few r = absurd goes
along-step R (suc i) (old ∷ olds) (here ∷ news) [] d new e goes small few r = absurd goes
along-step R (suc i) (old ∷ olds) (here ∷ news) (flag ∷ flags) d new e goes small few r =
    (goes.0, along-step R i olds news flags d new e goes.1 (omega (arith, small)) (omega (arith, few)) r)

pub along-next : {X : Type 0}
    → (R : Seat X → Seat X → Bool → Type 0) (i : ℕ) (olds news : List (Seat X)) (flags : List Bool)
    → (d new : Seat X) (e : Bool)
    → GoesAlong R i olds news flags
    → i < length news
    → i < length flags
    → R (slice_index_or news i d) new (slice_index_or flags i e)
    → GoesAlong R (i + 1) olds (slice_set news i new) flags
along-next R i olds news flags d new e goes small few r =
    let is : suc i ≡ i + 1 = omega arith in
    subst (λ k. GoesAlong R k olds (slice_set news i new) flags) is
    (along-step R i olds news flags d new e goes small few r)

set-first : {X : Type 0}
    → (R : Seat X → Seat X → Bool → Type 0) (olds news : List (Seat X)) (flags : List Bool) (d new : Seat X)
    (flag : Bool)
    → news ≡ olds → 0 < length news → 0 < length flags → R (slice_index_or news 0 d) new flag
    → GoesAlong R (suc zero) olds (slice_set news 0 new) (slice_set flags 0 flag)
set-first R olds [] flags d new flag same small few r = absurd (omega (arith, small))
set-first R [] (here ∷ news) flags d new flag same small few r = absurd cc
set-first R (old ∷ olds) (here ∷ news) [] d new flag same small few r = absurd (omega (arith, few))
set-first R (old ∷ olds) (here ∷ news) (other ∷ flags) d new flag same small few r =
    let first : here ≡ old = cc in
    let rest : news ≡ olds = cc in
    (subst (λ seat. R seat new flag) first r, rest)

set-step : {X : Type 0} → (R : Seat X → Seat X → Bool → Type 0) (i : ℕ) (olds news : List (Seat X)) (flags : List Bool)
    → (d new : Seat X) (flag : Bool)
    → GoesAlong R i olds news flags → i < length news → i < length flags → R (slice_index_or news i d) new flag
    → GoesAlong R (suc i) olds (slice_set news i new) (slice_set flags i flag)
set-step R zero olds news flags d new flag goes small few r = set-first R olds news flags d new flag goes small few r
set-step R (suc i) [] news flags d new flag goes small few r = absurd goes
set-step R (suc i) (old ∷ olds) [] flags d new flag goes small few r = absurd goes
set-step R (suc i) (old ∷ olds) (here ∷ news) [] d new flag goes small few r = absurd goes
set-step R (suc i) (old ∷ olds) (here ∷ news) (other ∷ flags) d new flag goes small few r =
    (goes.0, set-step R i olds news flags d new flag goes.1 (omega (arith, small)) (omega (arith, few)) r)

-- one more turn that sets its flag
pub along-set : {X : Type 0}
    → (R : Seat X → Seat X → Bool → Type 0) (i : ℕ) (olds news : List (Seat X)) (flags : List Bool)
    → (d new : Seat X) (flag : Bool)
    → GoesAlong R i olds news flags → i < length news → i < length flags → R (slice_index_or news i d) new flag
    → GoesAlong R (i + 1) olds (slice_set news i new) (slice_set flags i flag)
along-set R i olds news flags d new flag goes small few r =
    let is : suc i ≡ i + 1 = omega arith in
    subst (λ k. GoesAlong R k olds (slice_set news i new) (slice_set flags i flag)) is
    (set-step R i olds news flags d new flag goes small few r)

along-end : {X : Type 0} → (R : Seat X → Seat X → Bool → Type 0) (olds news : List (Seat X)) (flags : List Bool)
    → news ≡ olds → length news ≤ 0 → length flags ≡ length news → Over R olds news flags
along-end R [] [] [] same small many = tt
along-end R [] [] (flag ∷ flags) same small many = absurd (omega (arith, many))
along-end R (old ∷ olds) [] flags same small many = absurd cc
along-end R olds (here ∷ news) flags same small many = absurd (omega (arith, small))

pub along-done : {X : Type 0}
    → (R : Seat X → Seat X → Bool → Type 0) (i : ℕ) (olds news : List (Seat X)) (flags : List Bool)
    → GoesAlong R i olds news flags → length news ≤ i → length flags ≡ length news → Over R olds news flags
along-done R zero olds news flags goes small many = along-end R olds news flags goes small many
along-done R (suc i) [] news flags goes small many = absurd goes
along-done R (suc i) (old ∷ olds) [] flags goes small many = absurd goes
along-done R (suc i) (old ∷ olds) (here ∷ news) [] goes small many = absurd goes
along-done R (suc i) (old ∷ olds) (here ∷ news) (flag ∷ flags) goes small many =
    (goes.0, along-done R i olds news flags goes.1 (omega (arith, small)) (omega (arith, many)))

-- ---- one seat after another, without flags

on-first : {X : Type 0} → (R : Seat X → Seat X → Type 0) (olds news : List (Seat X)) (d new : Seat X)
    → news ≡ olds → 0 < length news → R (slice_index_or news 0 d) new → GoesOn R (suc zero) olds (slice_set news 0 new)
on-first R olds [] d new same small r = absurd (omega (arith, small))
on-first R [] (here ∷ news) d new same small r = absurd cc
on-first R (old ∷ olds) (here ∷ news) d new same small r =
    let first : here ≡ old = cc in
    let rest : news ≡ olds = cc in
    (subst (λ seat. R seat new) first r, rest)

on-step : {X : Type 0} → (R : Seat X → Seat X → Type 0) (i : ℕ) (olds news : List (Seat X)) (d new : Seat X)
    → GoesOn R i olds news
    → i < length news
    → R (slice_index_or news i d) new
    → GoesOn R (suc i) olds (slice_set news i new)
on-step R zero olds news d new goes small r = on-first R olds news d new goes small r
on-step R (suc i) [] news d new goes small r = absurd goes
on-step R (suc i) (old ∷ olds) [] d new goes small r = absurd goes
on-step R (suc i) (old ∷ olds) (here ∷ news) d new goes small r =
    (goes.0, on-step R i olds news d new goes.1 (omega (arith, small)) r)

pub on-next : {X : Type 0} → (R : Seat X → Seat X → Type 0) (i : ℕ) (olds news : List (Seat X)) (d new : Seat X)
    → GoesOn R i olds news
    → i < length news
    → R (slice_index_or news i d) new
    → GoesOn R (i + 1) olds (slice_set news i new)
on-next R i olds news d new goes small r =
    let e : suc i ≡ i + 1 = omega arith in
    subst (λ k. GoesOn R k olds (slice_set news i new)) e (on-step R i olds news d new goes small r)

on-end : {X : Type 0}
    → (R : Seat X → Seat X → Type 0) (olds news : List (Seat X))
    → news ≡ olds
    → length news ≤ 0
    → OverAll R olds news
on-end R [] [] same small = tt
on-end R (old ∷ olds) [] same small = absurd cc
on-end R olds (here ∷ news) same small = absurd (omega (arith, small))

pub on-done : {X : Type 0} → (R : Seat X → Seat X → Type 0) (i : ℕ) (olds news : List (Seat X))
    → GoesOn R i olds news → length news ≤ i → OverAll R olds news
on-done R zero olds news goes small = on-end R olds news goes small
on-done R (suc i) [] news goes small = absurd goes
on-done R (suc i) (old ∷ olds) [] goes small = absurd goes
on-done R (suc i) (old ∷ olds) (here ∷ news) goes small = (goes.0, on-done R i olds news goes.1 (omega (arith, small)))

-- ---- lengths

pub over-all-length : {X : Type 0}
    → (R : Seat X → Seat X → Type 0) (olds news : List (Seat X))
    → OverAll R olds news
    → length news ≡ length olds
over-all-length R [] [] over = refl
over-all-length R [] (new ∷ news) over = absurd over
over-all-length R (old ∷ olds) [] over = absurd over
over-all-length R (old ∷ olds) (new ∷ news) over = ap suc (over-all-length R olds news over.1)
