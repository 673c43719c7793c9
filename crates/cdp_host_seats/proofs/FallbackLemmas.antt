-- The lists that a host makes of its seats before a run.
use Rattle.std.proofs.Common.{Result, Ok, Err, OnOk, IsOk, is_ok, if◌then◌else◌, ◌≡◌, ◌<◌, ◌≤◌, ℕ, zero, suc, ◌+◌, List, [], ◌∷◌, ◌++◌, length, take, slice_index_or, Option, option_to_list, vec_capacity, refl, ap, sym, ◌∙◌, arith}
use Rattle.std.proofs.lemmas.List.{take_more}
use Rattle.cdp_host_isolation.specs.Seats.{each, fallen}
use Rattle.cdp_host_isolation.specs.declared.seat.Seat.{Seat}
use Rattle.cdp_host_isolation.proofs.TextLemmas.{each-length}
use Rattle.cdp_host_seats.specs.Fallbacks.{HasRoom}
use Rattle.cdp_host_seats.specs.Losses.{losses_from}
use Rattle.cdp_host_seats.specs.declared.fallback.Fallback.{Fallback as Held}
use Rattle.cdp_host_seats.specs.declared.losses.SessionLost.{SessionLost}
use Rattle.cdp_host_seats.proofs.ReportLemmas.{losses-done, losses-more}

each-here : {X : Type 0} → (f : Seat X → Seat X) (i : ℕ) (seats : List (Seat X)) (d : Seat X)
    → slice_index_or (each f seats) i (f d) ≡ f (slice_index_or seats i d)
each-here f i [] d = refl
each-here f zero (seat ∷ seats) d = refl
each-here f (suc i) (seat ∷ seats) d = each-here f i seats d

-- one more of what is done to each
pub each-more : {X : Type 0}
    → (f : Seat X → Seat X) (i : ℕ) (seats : List (Seat X)) (d : Seat X) (items news : List (Seat X))
    → i < length seats
    → items ≡ take i (each f seats) → news ≡ items ++ f (slice_index_or seats i d) ∷ []
    → news ≡ take (i + 1) (each f seats)
each-more f i seats d items news small before is =
    let within : i < length (each f seats) = let e = each-length f seats in omega (arith, small, e) in
    is
    ∙ ap (λ xs. xs ++ f (slice_index_or seats i d) ∷ []) before
    ∙ ap (λ one. take i (each f seats) ++ one ∷ []) (sym (each-here f i seats d))
    ∙ sym (take_more (each f seats) i (f d) within)

take-done : {A : Type 0} → (i : ℕ) (xs : List A) → length xs ≤ i → take i xs ≡ xs
take-done zero [] done = refl
take-done (suc i) [] done = refl
take-done zero (x ∷ xs) done = absurd (omega (arith, done))
take-done (suc i) (x ∷ xs) done = ap (λ rest. x ∷ rest) (take-done i xs (omega (arith, done)))

-- all of it
pub each-done : {X : Type 0} → (f : Seat X → Seat X) (i : ℕ) (seats items : List (Seat X)) → length seats ≤ i
    → items ≡ take i (each f seats) → items ≡ each f seats
each-done f i seats items done is =
    is ∙ take-done i (each f seats) (let e = each-length f seats in omega (arith, done, e))

-- one more of the losses of a run that meets want of memory
pub falls-more : {X : Type 0}
    → (i : ℕ) (seats : List (Seat X)) (d : Seat X) (items news : List SessionLost)
    (loss : Option SessionLost)
    → i < length seats → items ≡ losses_from 1 (take i (each fallen seats))
    → losses_from (i + 1) (fallen (slice_index_or seats i d) ∷ []) ≡ option_to_list loss
    → news ≡ items ++ option_to_list loss
    → news ≡ losses_from 1 (take (i + 1) (each fallen seats))
falls-more i seats d items news loss small before one is =
    losses-more i (each fallen seats) (fallen d) items news loss
    (let e = each-length fallen seats in omega (arith, small, e)) before
    (ap (λ seat. losses_from (i + 1) (seat ∷ [])) (each-here fallen i seats d) ∙ one) is

pub falls-done : {X : Type 0}
    → (i : ℕ) (seats : List (Seat X)) (items : List SessionLost) → length seats ≤ i
    → items ≡ losses_from 1 (take i (each fallen seats)) → items ≡ losses_from 1 (each fallen seats)
falls-done i seats items done is =
    losses-done i (each fallen seats) items (let e = each-length fallen seats in omega (arith, done, e)) is

-- ---- where there is room

pub pushed-one : {A E B : Type 0} (r : Result A E) (x y z : B) → IsOk r → x ≡ (if is_ok r then y else z) → x ≡ y
pushed-one (Ok value) x y z room is = is
pushed-one (Err error) x y z room is = absurd cc

pub at-room : {A E : Type 0} (r : Result A E) (P : Type 0) → IsOk r → OnOk r P → P
at-room (Ok value) P room holds = holds
at-room (Err error) P room holds = absurd cc

-- ---- room

-- room that only grew
pub wider-room : {X : Type 0} → (count : ℕ) (held wider : Held X) → HasRoom count held
    → vec_capacity held.seats ≤ vec_capacity wider.seats
    → vec_capacity held.losses ≤ vec_capacity wider.losses → HasRoom count wider
wider-room count held wider room seats losses =
    let few = room.seats in
    let few_losses = room.losses in
    record { seats = omega (arith, few, seats); losses = omega (arith, few_losses, losses) }
