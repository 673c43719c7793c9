-- Whom a host holds as attached, and whom the history has for which it stands.
use Rattle.std.proofs.Common.{◌≡◌, ℕ, Bool, true, false, if◌then◌else◌, refl, ap, sym, ◌∙◌}
use Rattle.cdp_host_isolation.specs.Meanings.{Meaning}
use Rattle.cdp_host_isolation.specs.Seats.{fallen, is_attached, is_listed, seat_of}
use Rattle.cdp_host_isolation.specs.Standing.{StandsAs, fallen_in, fell}
use Rattle.cdp_host_isolation.specs.declared.seat.Seat.{Seat}
use Rattle.cdp_host_isolation.specs.declared.seat.Seat.TheVariants.{Attached, Lost, Left}
use Rattle.cdp_host_isolation.proofs.SeatLemmas.{without-at}

-- ---- one seat

fallen-gone : {X : Type 0} → (seat : Seat X) → is_attached (fallen seat) ≡ false
fallen-gone (Attached x) = refl
fallen-gone (Lost loss is_reported is_told) = refl
fallen-gone Left = refl

held-by : {X : Type 0}
    → (b : Bool) (mine seat : Seat X)
    → mine ≡ (if b then fallen seat else seat)
    → is_attached mine ≡ true
    → seat ≡ mine
held-by true mine seat is held =
    let gone : is_attached mine ≡ false = ap (λ s. is_attached s) is ∙ fallen-gone seat in
    absurd cc
held-by false mine seat is held = sym is

gone-by : {X : Type 0}
    → (b : Bool) (mine seat : Seat X)
    → mine ≡ (if b then fallen seat else seat)
    → is_attached mine ≡ false
    → fell mine ≡ false
    → is_attached seat ≡ false
gone-by true mine (Attached x) is gone stays =
    let e : fell mine ≡ true = ap (λ s. fell s) is in
    absurd cc
gone-by true mine (Lost loss is_reported is_told) is gone stays = refl
gone-by true mine Left is gone stays = refl
gone-by false mine seat is gone stays = ap (λ s. is_attached s) (sym is) ∙ gone

-- ---- the seats of a host

pub host-seat : {C Q X : Type 0} → (host m : Meaning C Q X) (s : ℕ) → StandsAs host m
    → seat_of s host.seats ≡
    (if is_listed (fallen_in host.seats) s then fallen (seat_of s m.seats) else seat_of s m.seats)
host-seat host m s stands = ap (λ k. seat_of s k.seats) stands.is ∙ without-at (fallen_in host.seats) s m.seats

-- a session that a host holds has the seat that the history says
pub held-seat : {C Q X : Type 0}
    → (host m : Meaning C Q X) (s : ℕ)
    → StandsAs host m
    → is_attached (seat_of s host.seats) ≡ true
    → seat_of s m.seats ≡ seat_of s host.seats
held-seat host m s stands held =
    held-by (is_listed (fallen_in host.seats) s) (seat_of s host.seats) (seat_of s m.seats) (host-seat host m s stands)
    held

-- one that it doesn't hold, and that wasn't lost for want of memory, isn't attached in the history
pub gone-seat : {C Q X : Type 0}
    → (host m : Meaning C Q X) (s : ℕ)
    → StandsAs host m
    → is_attached (seat_of s host.seats) ≡ false
    → fell (seat_of s host.seats) ≡ false → is_attached (seat_of s m.seats) ≡ false
gone-seat host m s stands gone stays =
    gone-by (is_listed (fallen_in host.seats) s) (seat_of s host.seats) (seat_of s m.seats) (host-seat host m s stands)
    gone stays
