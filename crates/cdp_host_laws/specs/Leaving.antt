-- What becomes of a paused program, and of the other sessions, where one session leaves or is refused.
use Rattle.std.specs.Prelude.{◌≡◌, ◌≢◌, ℕ, List, [], ◌∷◌, ◌++◌, true, None}
use Rattle.serde_json.specs.Read.{read}
use Rattle.cdp_json.specs.Commands.{reading_of}
use Rattle.cdp_json.specs.declared.command.Reading.TheVariants.{Command}
use Rattle.cdp_json.specs.declared.method.Method.{Method}
use Rattle.cdp_json.specs.declared.params.Params.{Params}
use Rattle.cdp_host_isolation.specs.Histories.{Detach, Entry}
use Rattle.cdp_host_isolation.specs.Seats.{seat_of}
use Rattle.cdp_host_isolation.specs.declared.seat.Seat.TheVariants.{Attached}
use Rattle.js_semantics.specs.Run.{Run}
use Rattle.cdp_session.specs.Sessions.{Session}
use Rattle.cdp_host.specs.Histories.{Meaning}
use Rattle.cdp_host.specs.Rules.{NoOtherEnabled}

-- a history that goes on with the detach of a session
abbrev pub then_left : List Entry → ℕ → List Entry
then_left history s = history ++ Detach s ∷ []

-- the text is read as this command
pub record IsRead (text : List ℕ) (command : Params) : Type 0 where
  pub id : ℕ
  pub method : Method
  pub reads : reading_of (read text) ≡ Command id method command

-- The program stands where it did, after as many stops. It stays paused at the same stop where another session than
-- that of this number has the debugger enabled, and isn't paused where no other has.
pub record IsLeftToOthers (s : ℕ) (old new : Meaning Run) : Type 0 where
  pub same_program : new.program ≡ old.program
  pub same_count : new.stops ≡ old.stops
  pub stays : (r : ℕ) (y : Session)
      → r ≢ s
      → seat_of r old.seats ≡ Attached y
      → y.rules.enabled ≡ true
      → new.stop ≡ old.stop
  pub goes_on : NoOtherEnabled s old → new.stop ≡ None

-- The program, its pause and the other sessions are as they were; the session of this number is this one.
pub record ChangesOnly (s : ℕ) (y : Session) (old new : Meaning Run) : Type 0 where
  pub same_program : new.program ≡ old.program
  pub same_phase : new.phase ≡ old.phase
  pub same_stop : new.stop ≡ old.stop
  pub same_count : new.stops ≡ old.stops
  pub own : seat_of s new.seats ≡ Attached y
  pub others : (r : ℕ) → r ≢ s → seat_of r new.seats ≡ seat_of r old.seats
