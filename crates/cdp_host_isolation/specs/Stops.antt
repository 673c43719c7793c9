-- Where the runs of a history stop, in the words of the run without a debugger.
use Rattle.std.specs.Prelude.{◌≡◌, ◌<◌, ℕ, zero, suc, ◌+◌, List, [], ◌∷◌, true, false, Some}
use Rattle.cdp_host_isolation.specs.Seats.{some}
use Rattle.cdp_host_isolation.specs.Protocols.{Protocol}
use Rattle.cdp_host_isolation.specs.Meanings.{Meaning, after_run, after_steps, is_enabled_seat, is_named, is_paused, is_ready}
use Rattle.cdp_host_isolation.specs.Histories.{Entry, Attach, Tell, Take, Detach, Ran, Shut, apply, steps_of}

-- where a program is after so many steps that nobody watches
abbrev pub plain : {C T Q X : Type 0} → Protocol C T Q X → ℕ → C → C
plain P zero c = c
plain P (suc k) c = P.next (plain P k c)

-- A program makes these steps at a moment, from the one that is so many plain steps from its beginning, and the last of
-- them loses the sessions of these numbers for want of memory. Each is made where the program is ready. No step before
-- the last is named by a session as it is just before that step; and the program stops at the last exactly where one
-- names it that isn't lost at it.
pub record StopsExactly {C T Q X : Type 0} (P : Protocol C T Q X) (c : C) (made moment : ℕ) (gone : List ℕ)
    (m : Meaning C Q X) (n : ℕ) : Type 0 where
  pub ready : (j : ℕ) → j < n → is_ready P (after_steps P moment j m) ≡ true
  pub passes_none : (j : ℕ) → j + 1 < n → is_named P moment [] (plain P (made + j) c) (after_steps P moment j m) ≡ false
  pub stops_there : (j : ℕ)
      → n ≡ suc j
      → is_paused (after_run P moment gone n m) ≡ is_named P moment gone (plain P (made + j) c)
      (after_steps P moment j m)

-- an entry that makes steps makes such ones
abbrev pub StopsAt : {C T Q X : Type 0} → Protocol C T Q X → C → ℕ → Meaning C Q X → Entry → Type 0
StopsAt P c made m Attach = Unit {0}
StopsAt P c made m (Tell s text) = Unit {0}
StopsAt P c made m (Take s) = Unit {0}
StopsAt P c made m (Detach s) = Unit {0}
StopsAt P c made m (Ran n moment gone) = StopsExactly P c made moment gone m n
StopsAt P c made m Shut = Unit {0}

-- `StopsExactly` holds of each run of a history
abbrev pub AllStopExactly : {C T Q X : Type 0} → Protocol C T Q X → C → ℕ → Meaning C Q X → List Entry → Type 0
AllStopExactly P c made m [] = Unit {0}
AllStopExactly P c made m (entry ∷ history) =
    StopsAt P c made m entry × AllStopExactly P c (made + steps_of entry) (apply P m entry) history

-- where the program is paused, a session has the debugger enabled, and the pause is one of where the program stands
pub record IsPausedWell {C T Q X : Type 0} (P : Protocol C T Q X) (m : Meaning C Q X) : Type 0 where
  pub enabled : is_paused m ≡ true → some (is_enabled_seat P) m.seats ≡ true
  pub there : (q : Q) → m.stop ≡ Some q → (number : ℕ) × (q ≡ P.pause number m.program)

-- taking its texts leaves a session as enabled as it was
abbrev pub KeepsEnabled : {C T Q X : Type 0} → Protocol C T Q X → Type 0
KeepsEnabled {C} {T} {Q} {X} P = (x : X) → P.is_enabled (P.emptied x) ≡ P.is_enabled x
