-- A host that stands for a history knows what its record asks.
use Rattle.std.proofs.Common.{◌≡◌, ℕ, ◌+◌, List, [], ◌∷◌, Bool, true, false, ◌&&◌, ◌||◌, not, if◌then◌else◌, refl, ap, sym, ◌∙◌}
use Rattle.std.proofs.lemmas.Bool.{false≢true, or_from, or_parts}
use Rattle.cdp_host_isolation.specs.Meanings.{Meaning}
use Rattle.cdp_host_isolation.specs.Seats.{fallen, is_attached, is_listed, seat_of, some, waits_for_report, without_from}
use Rattle.cdp_host_isolation.specs.Standing.{BrokenAs, StandsAs, fallen_in, fell}
use Rattle.cdp_host_isolation.specs.declared.seat.Loss.TheVariants.{Overrun, Memory}
use Rattle.cdp_host_isolation.specs.declared.seat.Seat.{Seat}
use Rattle.cdp_host_isolation.specs.declared.seat.Seat.TheVariants.{Attached, Lost, Left}
use Rattle.cdp_host_isolation.proofs.FallenLemmas.{fell-at, none-fallen, waits-fallen}
use Rattle.cdp_host_isolation.proofs.SeatLemmas.{without-at}
use Rattle.cdp_host_record.specs.Standing.{still_waits}

-- a seat of the history, and the host's, which may have fallen
attached-seat : {X : Type 0} → (b : Bool) (old new : Seat X) → new ≡ (if b then fallen old else old) → fell old ≡ false
    → is_attached old ≡ (is_attached new || fell new)
attached-seat true (Attached x) new is none = ap (λ seat. is_attached seat || fell seat) (sym is)
attached-seat false (Attached x) new is none = ap (λ seat. is_attached seat || fell seat) (sym is)
attached-seat true (Lost Overrun is_reported is_told) new is none =
    ap (λ seat. is_attached seat || fell seat) (sym is)
attached-seat false (Lost Overrun is_reported is_told) new is none =
    ap (λ seat. is_attached seat || fell seat) (sym is)
attached-seat true (Lost Memory true is_told) new is none = ap (λ seat. is_attached seat || fell seat) (sym is)
attached-seat false (Lost Memory true is_told) new is none = ap (λ seat. is_attached seat || fell seat) (sym is)
attached-seat b (Lost Memory false is_told) new is none = absurd (false≢true (sym none))
attached-seat true Left new is none = ap (λ seat. is_attached seat || fell seat) (sym is)
attached-seat false Left new is none = ap (λ seat. is_attached seat || fell seat) (sym is)

pub attached-told : {C Q X : Type 0} → (host m : Meaning C Q X) (s : ℕ) → StandsAs host m → some fell m.seats ≡ false
    → is_attached (seat_of s m.seats) ≡ (is_attached (seat_of s host.seats) || fell (seat_of s host.seats))
attached-told host m s stands none =
    let gone = fallen_in host.seats in
    attached-seat (is_listed gone s) (seat_of s m.seats) (seat_of s host.seats)
    (ap (λ k. seat_of s k.seats) stands.is ∙ without-at gone s m.seats) (fell-at s m.seats none)

waits-seat : {X : Type 0} → (b : Bool) (old : Seat X) → fell old ≡ false
    → waits_for_report old ≡ still_waits (if b then fallen old else old)
waits-seat true (Attached x) none = refl
waits-seat false (Attached x) none = refl
waits-seat true (Lost Overrun true is_told) none = refl
waits-seat false (Lost Overrun true is_told) none = refl
waits-seat true (Lost Overrun false is_told) none = refl
waits-seat false (Lost Overrun false is_told) none = refl
waits-seat true (Lost Memory true is_told) none = refl
waits-seat false (Lost Memory true is_told) none = refl
waits-seat b (Lost Memory false is_told) none = absurd (false≢true (sym none))
waits-seat true Left none = refl
waits-seat false Left none = refl

waits-all : {X : Type 0} → (gone : List ℕ) (s : ℕ) (seats : List (Seat X)) → some fell seats ≡ false
    → some waits_for_report seats ≡ some still_waits (without_from gone s seats)
waits-all gone s [] none = refl
waits-all gone s (seat ∷ seats) none =
    let parts = or_parts (fell seat) (some fell seats) none in
    ap (λ b. b || some waits_for_report seats) (waits-seat (is_listed gone s) seat parts.0)
    ∙ ap (λ b. still_waits (if is_listed gone s then fallen seat else seat) || b) (waits-all gone (s + 1) seats parts.1)

pub owed-told : {C Q X : Type 0} → (host m : Meaning C Q X) → StandsAs host m → some fell m.seats ≡ false
    → some waits_for_report m.seats ≡ some still_waits host.seats
owed-told host m stands none =
    waits-all (fallen_in host.seats) 1 m.seats none ∙ ap (λ k. some still_waits k.seats) (sym stands.is)

-- ---- behind want of memory in a run

or-no : (a : Bool) → (a || false) ≡ a
or-no true = refl
or-no false = refl

pub broken-attached : {X : Type 0} → (seats means : List (Seat X)) (s : ℕ) → BrokenAs seats means
    → is_attached (seat_of s means) ≡ (is_attached (seat_of s seats) || fell (seat_of s seats))
broken-attached seats means s broken =
    let none = fell-at s seats (none-fallen seats (waits-fallen seats broken.all_told)) in
    ap (λ all. is_attached (seat_of s all)) (sym broken.same)
    ∙ sym (ap (λ b. is_attached (seat_of s seats) || b) none ∙ or-no (is_attached (seat_of s seats)))

still-none : {X : Type 0} → (seats : List (Seat X)) → some waits_for_report seats ≡ false
    → some still_waits seats ≡ false
still-none [] none = refl
still-none (seat ∷ seats) none =
    let parts = or_parts (waits_for_report seat) (some waits_for_report seats) none in
    or_from (still_waits seat) (some still_waits seats) (ap (λ b. b && not (fell seat)) parts.0)
    (still-none seats parts.1)

pub broken-owed : {X : Type 0} → (seats means : List (Seat X)) → BrokenAs seats means
    → some waits_for_report means ≡ some still_waits seats
broken-owed seats means broken =
    ap (λ all. some waits_for_report all) (sym broken.same)
    ∙ broken.all_told
    ∙ sym (still-none seats broken.all_told)
