-- What a report does to each seat, and the losses that wait.
use Rattle.std.proofs.Common.{◌≡◌, ◌<◌, ◌≤◌, ℕ, zero, suc, ◌+◌, List, [], ◌∷◌, ◌++◌, length, take, slice_index_or, true, false, Option, Some, None, is_some, option_to_list, refl, ap, sym, ◌∙◌, append_assoc, arith}
use Rattle.cdp_host_isolation.specs.Passes.{OverAll}
use Rattle.cdp_host_isolation.specs.Seats.{each, reported, waits_for_report}
use Rattle.cdp_host_isolation.specs.declared.seat.Seat.{Seat}
use Rattle.cdp_host_isolation.specs.declared.seat.Seat.TheVariants.{Attached, Lost, Left}
use Rattle.cdp_host_seats.specs.Losses.{losses_from}
use Rattle.cdp_host_seats.specs.declared.losses.SessionLost.{SessionLost}

-- ---- reports

-- a seat is as a run leaves it that reported what waited
abbrev pub IsReported : {X : Type 0} → Seat X → Seat X → Type 0
IsReported old new = new ≡ reported old

pub each-reported : {X : Type 0}
    → (olds news : List (Seat X)) → OverAll IsReported olds news → news ≡ each reported olds
each-reported [] [] over = refl
each-reported [] (new ∷ news) over = absurd over
each-reported (old ∷ olds) [] over = absurd over
each-reported (old ∷ olds) (new ∷ news) over =
    ap (λ seat. seat ∷ news) over.0 ∙ ap (λ seats. reported old ∷ seats) (each-reported olds news over.1)

-- ---- losses that wait

losses-cons : {X : Type 0}
    → (s : ℕ) (seat : Seat X) (seats : List (Seat X))
    → losses_from s (seat ∷ seats) ≡ losses_from s (seat ∷ []) ++ losses_from (s + 1) seats
losses-cons s (Attached x) seats = refl
losses-cons s (Lost loss true is_told) seats = refl
losses-cons s (Lost loss false is_told) seats = refl
losses-cons s Left seats = refl

losses-next : {X : Type 0}
    → (s i : ℕ) (seats : List (Seat X)) (d : Seat X) → i < length seats
    → losses_from s (take (suc i) seats) ≡ losses_from s (take i seats) ++ losses_from (s + i)
    (slice_index_or seats i d ∷ [])
losses-next s i [] d small = absurd (omega (arith, small))
losses-next s zero (seat ∷ seats) d small = let e : s ≡ s + 0 = omega arith in ap (λ n. losses_from n (seat ∷ [])) e
losses-next s (suc i) (seat ∷ seats) d small =
    let e : s + 1 + i ≡ s + suc i = omega arith in
    let one : List SessionLost = losses_from s (seat ∷ []) in
    let before : List SessionLost = losses_from (s + 1) (take i seats) in
    let last : Seat _ = slice_index_or seats i d in
    losses-cons s seat (take (suc i) seats)
    ∙ ap (λ xs. one ++ xs) (losses-next (s + 1) i seats d (omega (arith, small)))
    ∙ sym (append_assoc one before (losses_from (s + 1 + i) (last ∷ [])))
    ∙ ap (λ n. (one ++ before) ++ losses_from n (last ∷ [])) e
    ∙ ap (λ xs. xs ++ losses_from (s + suc i) (last ∷ [])) (sym (losses-cons s seat (take i seats)))

-- one more of those that wait
pub losses-more : {X : Type 0}
    → (i : ℕ) (seats : List (Seat X)) (d : Seat X) (items news : List SessionLost)
    (loss : Option SessionLost)
    → i < length seats → items ≡ losses_from 1 (take i seats)
    → losses_from (i + 1) (slice_index_or seats i d ∷ []) ≡ option_to_list loss → news ≡ items ++ option_to_list loss
    → news ≡ losses_from 1 (take (i + 1) seats)
losses-more i seats d items news loss small before one is =
    let e : suc i ≡ i + 1 = omega arith in
    let f : i + 1 ≡ 1 + i = omega arith in
    let last : Seat _ = slice_index_or seats i d in
    is
    ∙ ap (λ xs. xs ++ option_to_list loss) before
    ∙ ap (λ xs. losses_from 1 (take i seats) ++ xs) (sym one)
    ∙ ap (λ n. losses_from 1 (take i seats) ++ losses_from n (last ∷ [])) f
    ∙ sym (losses-next 1 i seats d small)
    ∙ ap (λ n. losses_from 1 (take n seats)) e

-- all of them
losses-all : {X : Type 0}
    → (s i : ℕ) (seats : List (Seat X))
    → length seats ≤ i
    → losses_from s (take i seats) ≡ losses_from s seats
losses-all s zero [] done = refl
losses-all s (suc i) [] done = refl
losses-all s zero (seat ∷ seats) done = absurd (omega (arith, done))
losses-all s (suc i) (seat ∷ seats) done =
    losses-cons s seat (take i seats)
    ∙ ap (λ xs. losses_from s (seat ∷ []) ++ xs) (losses-all (s + 1) i seats (omega (arith, done)))
    ∙ sym (losses-cons s seat seats)

pub losses-done : {X : Type 0}
    → (i : ℕ) (seats : List (Seat X)) (items : List SessionLost) → length seats ≤ i
    → items ≡ losses_from 1 (take i seats) → items ≡ losses_from 1 seats
losses-done i seats items done is = is ∙ losses-all 1 i seats done

-- a loss that is listed waits for a run
pub listed-waits : {X : Type 0}
    → (s : ℕ) (seat : Seat X) (loss : Option SessionLost)
    → losses_from s (seat ∷ []) ≡ option_to_list loss
    → is_some loss ≡ true
    → waits_for_report seat ≡ true
listed-waits s seat None are listed = absurd cc
listed-waits s (Attached x) (Some loss) are listed = absurd cc
listed-waits s (Lost cause true is_told) (Some loss) are listed = absurd cc
listed-waits s (Lost cause false is_told) (Some loss) are listed = refl
listed-waits s Left (Some loss) are listed = absurd cc
