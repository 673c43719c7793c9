-- What holds of a history, in the words of the run without a debugger.
use Rattle.std.specs.Prelude.{◌≡◌, ◌≢◌, ◌<◌, ℕ, ◌+◌, List, drop, length, Bool, true, false, ◌&&◌, ◌||◌, is_some, Some}
use Rattle.cdp_text.specs.declared.position.Place.{Place}
use Rattle.cdp_host_isolation.specs.Meanings.{after_run, is_paused}
use Rattle.cdp_host_isolation.specs.Seats.{is_attached, seat_of}
use Rattle.cdp_host_isolation.specs.declared.seat.Seat.TheVariants.{Attached}
use Rattle.js_tree.specs.declared.script.Script.{Script}
use Rattle.js_semantics.specs.Run.{Run}
use Rattle.js_semantics.specs.Laws.{IsPrefix}
use Rattle.stepping.specs.declared.arrival.Arrival.{Arrival}
use Rattle.stepping.specs.declared.rules.StepKind.{StepKind}
use Rattle.stepping.specs.Alone.{AsksForStep}
use Rattle.stepping.specs.Causes.{ends_at}
use Rattle.breakpoints.specs.Breakpoints.{is_hit}
use Rattle.cdp_session.specs.declared.situation.Pause.{Pause}
use Rattle.cdp_session.specs.Sessions.{Session}
use Rattle.cdp_host.specs.Histories.{Meaning}
use Rattle.cdp_host.specs.Programs.{arrival_of, plain, printed_of, is_over}
use Rattle.cdp_host.specs.Protocols.{protocol}

-- ---- output

-- A program that has made so many steps has printed what the run without a debugger has printed by then: a prefix of
-- what that prints in any further steps, and all of it once it is over.
pub record PrintsAsPlain (scripts : List Script) (input : List (List ℕ)) (made : ℕ) (r : Run) : Type 0 where
  pub first : (j : ℕ) → IsPrefix (printed_of r) (printed_of (plain (made + j) scripts input))
  pub all : is_over r ≡ true → (j : ℕ) → printed_of (plain (made + j) scripts input) ≡ printed_of r

-- the texts that steps printed which lead from one run to another
abbrev pub printed_between : Run → Run → List (List ℕ)
printed_between r q = drop (length (printed_of r)) (printed_of q)

-- ---- steps that a session asks for

-- the session asks for one step of this kind, from this depth, and for nothing else: no breakpoint of it is hit
-- anywhere
pub record StepsAlone (x : Session) (kind : StepKind) (depth : ℕ) : Type 0 where
  pub rules : AsksForStep x.rules kind depth
  pub none_hit : (place : Place) → is_hit place x.breakpoints ≡ false

-- such a step ends at an arrival that is deep enough out, or at a `debugger` statement
abbrev pub ends_step : StepKind → ℕ → Arrival → Bool
ends_step kind depth a = is_some a.place && (a.debugger || ends_at kind depth a.depth)

-- no session but the one of this number has the debugger enabled
abbrev pub NoOtherEnabled : ℕ → Meaning Run → Type 0
NoOtherEnabled s m = (r : ℕ) (y : Session) → r ≢ s → seat_of r m.seats ≡ Attached y → y.rules.enabled ≡ false

-- A program makes these steps at a moment, from the one that is so many plain steps from its beginning, and the last of
-- them loses the sessions of these numbers for want of memory. It stops at the first that ends the step, or at none;
-- nor does it stop at one at which the session of this number is lost.
pub record StopsAtFirst (kind : StepKind) (depth : ℕ) (scripts : List Script) (input : List (List ℕ)) (made moment : ℕ)
    (gone : List ℕ) (s : ℕ) (m : Meaning Run) (n : ℕ) : Type 0 where
  pub passes_none : (j : ℕ)
      → j + 1 < n
      → ends_step kind depth (arrival_of scripts (plain (made + j + 1) scripts input)) ≡ false
  pub stops_there : (j : ℕ) → n ≡ j + 1
      → is_paused (after_run (protocol scripts) moment gone n m)
      ≡ (ends_step kind depth (arrival_of scripts (plain (made + j + 1) scripts input)) && is_attached
      (seat_of s (after_run (protocol scripts) moment gone n m).seats))

-- where a program is paused, the depth that is kept of it is the one at which it stands
abbrev pub IsPausedThere : List Script → Meaning Run → Type 0
IsPausedThere scripts m = (p : Pause) → m.stop ≡ Some p → p.depth ≡ (arrival_of scripts m.program).depth
