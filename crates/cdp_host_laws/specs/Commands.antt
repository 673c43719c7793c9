-- A session that debugs a program alone, and the command that it tells.
use Rattle.std.specs.Prelude.{◌≡◌, ℕ, List, [], ◌∷◌, ◌++◌, Bool, true, false, None}
use Rattle.serde_json.specs.Read.{read}
use Rattle.cdp_text.specs.declared.position.Place.{Place}
use Rattle.cdp_json.specs.Commands.{reading_of}
use Rattle.cdp_json.specs.declared.command.Reading.TheVariants.{Command}
use Rattle.cdp_json.specs.declared.method.Method.{Method}
use Rattle.cdp_json.specs.declared.params.Params.{Params}
use Rattle.cdp_host_isolation.specs.Histories.{Entry, Tell}
use Rattle.cdp_host_isolation.specs.Seats.{is_attached, seat_of}
use Rattle.cdp_host_isolation.specs.declared.seat.Seat.TheVariants.{Attached}
use Rattle.js_tree.specs.declared.script.Script.{Script}
use Rattle.js_semantics.specs.Run.{Run}
use Rattle.stepping.specs.declared.rules.Exceptions.TheVariants as throws
use Rattle.breakpoints.specs.Breakpoints.{fault_of, is_hit}
use Rattle.cdp_session.specs.Sessions.{Session}
use Rattle.cdp_host.specs.Histories.{Meaning, whole}
use Rattle.cdp_host.specs.Rules.{NoOtherEnabled}

-- The session of this number is attached, has the debugger enabled and doesn't skip pauses. No other session has the
-- debugger enabled.
pub record DebugsAlone (s : ℕ) (x : Session) (m : Meaning Run) : Type 0 where
  pub attached : seat_of s m.seats ≡ Attached x
  pub enabled : x.rules.enabled ≡ true
  pub heeds : x.rules.skip ≡ false
  pub no_other : NoOtherEnabled s m

-- the session has no request: no pause, no step and no place to run to
pub record HasNoRequest (x : Session) : Type 0 where
  pub no_pause : x.rules.pause ≡ false
  pub no_step : x.rules.step ≡ None
  pub no_place : x.rules.to ≡ None

-- no breakpoint of the session is hit anywhere
abbrev pub HasNoBreakpoint : Session → Type 0
HasNoBreakpoint x = (place : Place) → is_hit place x.breakpoints ≡ false

-- its breakpoints are active, and it may set one of this id: it has none of that id, and room for one more
pub record MaySet (called : List ℕ) (x : Session) : Type 0 where
  pub active : x.breakpoints.active ≡ true
  pub room : fault_of called x.breakpoints ≡ None

-- the session wants no throws
abbrev pub WantsNoThrows : Session → Type 0
WantsNoThrows x = x.rules.exceptions ≡ throws.Never

-- a history that goes on with a text that a session tells
abbrev pub then_told : List Entry → ℕ → List ℕ → List Entry
then_told history s text = history ++ Tell s text ∷ []

-- the text is read as this command, and after it its session is still attached: the answer fits
pub record IsTold (scripts : List Script) (input : List (List ℕ)) (wait : Bool) (history : List Entry) (s : ℕ)
    (text : List ℕ) (command : Params) : Type 0 where
  pub id : ℕ
  pub method : Method
  pub reads : reading_of (read text) ≡ Command id method command
  pub stays : is_attached (seat_of s (whole scripts input wait (then_told history s text)).seats) ≡ true
