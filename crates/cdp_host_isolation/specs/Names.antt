-- What one session names, where no other names anything.
use Rattle.std.specs.Prelude.{◌≡◌, ◌≢◌, ◌<◌, ℕ, ◌+◌, List, false, ◌&&◌}
use Rattle.cdp_host_isolation.specs.Seats.{is_attached, seat_of}
use Rattle.cdp_host_isolation.specs.Protocols.{Protocol}
use Rattle.cdp_host_isolation.specs.Meanings.{Meaning, after_run, is_paused}
use Rattle.cdp_host_isolation.specs.Runs.{names_seat}
use Rattle.cdp_host_isolation.specs.Stops.{plain}

-- what a session is told of a step changes nothing of what it names
abbrev pub IsSteady : {C T Q X : Type 0} → Protocol C T Q X → Type 0
IsSteady {C} {T} {Q} {X} P = (moment : ℕ) (t u : T) (x : X) → P.names u (P.told moment t x) ≡ P.names u x

-- no session but the one of this number names anything
abbrev pub NamesAlone : {C T Q X : Type 0} → Protocol C T Q X → ℕ → Meaning C Q X → Type 0
NamesAlone {C} {T} {Q} {X} P s m = (t : T) (r : ℕ) → r ≢ s → names_seat P t (seat_of r m.seats) ≡ false

-- A program makes these steps at a moment, from the one that is so many plain steps from its beginning, and the last of
-- them loses the sessions of these numbers for want of memory. It stops at the first step that this session names, or
-- at none; nor does it stop at one at which the session is lost.
pub record StopsAtFirstNamed {C T Q X : Type 0} (P : Protocol C T Q X) (c : C) (made moment : ℕ) (gone : List ℕ) (s : ℕ)
    (x : X) (m : Meaning C Q X) (n : ℕ) : Type 0 where
  pub passes_none : (j : ℕ) → j + 1 < n → P.names (P.tells false (plain P (made + j) c)) x ≡ false
  pub stops_there : (j : ℕ) → n ≡ j + 1
      → is_paused (after_run P moment gone n m) ≡
      (P.names (P.tells false (plain P (made + j) c)) x && is_attached
      (seat_of s (after_run P moment gone n m).seats))
