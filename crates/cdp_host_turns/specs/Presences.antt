-- What a turn finds of a session.
use Rattle.std.specs.Prelude.{◌≡◌, ℕ, List, Bool, true, false, not, Option, Some, None, Result, Ok, Err}
use Rattle.cdp_host_isolation.specs.Histories.{Entry}
use Rattle.cdp_host_isolation.specs.Meanings.{Meaning}
use Rattle.cdp_host_isolation.specs.Protocols.{Protocol}
use Rattle.cdp_host_isolation.specs.Seats.{is_attached, seat_of}
use Rattle.cdp_host_isolation.specs.declared.seat.Loss.{Loss}
use Rattle.cdp_host_isolation.specs.declared.seat.Loss.TheVariants.{Overrun, Memory}
use Rattle.cdp_host_isolation.specs.declared.seat.Seat.{Seat}
use Rattle.cdp_host_isolation.specs.declared.seat.Seat.TheVariants.{Attached, Lost, Left}
use Rattle.cdp_host_seats.specs.declared.losses.SessionLost.{SessionLost}
use Rattle.cdp_host_turns.specs.Debuggings.{Debugging, meaning}
use Rattle.cdp_host_turns.specs.States.{IsShut}
use Rattle.cdp_host_turns.specs.declared.answers.Gone.{Gone}
use Rattle.cdp_host_turns.specs.declared.answers.Gone.TheVariants as gone
use Rattle.cdp_host_turns.specs.declared.answers.Told.{Told}
use Rattle.cdp_host_turns.specs.declared.answers.Told.TheVariants as told

-- ---- overruns

-- a session was lost by an overrun
abbrev pub is_overrun : Loss → Bool
is_overrun Overrun = true
is_overrun Memory = false

-- a detach tells of such a loss
abbrev pub tells_overrun : Option SessionLost → Bool
tells_overrun None = false
tells_overrun (Some lost) = is_overrun lost.loss

-- the session of a seat was lost by an overrun, and its owner wasn't told of that
abbrev pub overran : {X : Type 0} → Seat X → Bool
overran (Attached x) = false
overran (Lost Overrun is_reported is_told) = not is_told
overran (Lost Memory is_reported is_told) = false
overran Left = false

-- an attached session is told a text whose answer doesn't fit behind the texts that wait
abbrev pub overflows : {C T Q X : Type 0} → Protocol C T Q X → Meaning C Q X → List ℕ → Seat X → Bool
overflows P m text (Attached x) = not (P.fits (P.reply m.stop m.program text x))
overflows P m text (Lost loss is_reported is_told) = false
overflows P m text Left = false

-- ---- a session after a history

-- its seat
abbrev pub seat_after : (d : Debugging) → ℕ → List (ℕ × Entry) → Seat d.Session
seat_after d s h = seat_of s (meaning d h).seats

-- it is attached
abbrev pub IsAttached : Debugging → ℕ → List (ℕ × Entry) → Type 0
IsAttached d s h = is_attached (seat_after d s h) ≡ true

-- it is attached, and the program wasn't shut
abbrev pub IsThere : Debugging → ℕ → List (ℕ × Entry) → Type 0
IsThere d s h = IsAttached d s h × ((meaning d h).shut ≡ false)

-- It is gone: it was lost, by an overrun exactly where that is told; or the program was shut, and the session wasn't
-- lost.
abbrev pub IsGoneAs : Debugging → ℕ → Gone → List (ℕ × Entry) → Type 0
IsGoneAs d s (gone.Lost loss) h = is_overrun loss ≡ overran (seat_after d s h)
IsGoneAs d s gone.Shut h = IsShut d h × IsAttached d s h

-- a text was answered so: the answer fits behind the texts that wait, or it doesn't; nothing is said where there was no
-- memory
abbrev pub FitsAs : Debugging → ℕ → List ℕ → Told → List (ℕ × Entry) → Type 0
FitsAs d s text told.Kept h = overflows d.protocol (meaning d h) text (seat_after d s h) ≡ false
FitsAs d s text told.Overrun h = overflows d.protocol (meaning d h) text (seat_after d s h) ≡ true
FitsAs d s text told.Memory h = Unit {0}

-- it was there, and a text was answered so
abbrev pub IsToldAs : Debugging → ℕ → List ℕ → Told → List (ℕ × Entry) → Type 0
IsToldAs d s text answer h = IsThere d s h × FitsAs d s text answer h

-- ---- what a call found

-- the session was there, or gone so
abbrev pub FindsSession : {A : Type 0} → Debugging → ℕ → Result A Gone → List (ℕ × Entry) → Type 0
FindsSession d s (Ok done) h = IsThere d s h
FindsSession d s (Err why) h = IsGoneAs d s why h

-- where it was told a text, that was answered so
abbrev pub FitsIfTold : Debugging → ℕ → List ℕ → Result Told Gone → List (ℕ × Entry) → Type 0
FitsIfTold d s text (Ok answer) h = FitsAs d s text answer h
FitsIfTold d s text (Err why) h = Unit {0}
