-- What is written of a journal's entries.
use Rattle.std.specs.Prelude.{ℕ, List, [], ◌∷◌, ◌++◌, ◌+◌, Bool, false, not, length, map, codes, decimal, if◌then◌else◌}
use Rattle.cdp_host_isolation.specs.Histories.{Entry, Attach, Tell, Take, Detach, Ran, Shut, waiting}
use Rattle.cdp_host_isolation.specs.Meanings.{after_run}
use Rattle.cdp_host_isolation.specs.Seats.{seat_of}
use Rattle.cdp_host_isolation.specs.declared.seat.Seat.{Seat}
use Rattle.cdp_host_isolation.specs.declared.seat.Seat.TheVariants.{Attached as AttachedSeat, Lost, Left}
use Rattle.js_tree.specs.declared.script.Script.{Script}
use Rattle.js_semantics.specs.Run.{Run as Program}
use Rattle.cdp_session.specs.Sessions.{Session}
use Rattle.cdp_host_seats.specs.declared.losses.SessionLost.{SessionLost}
use Rattle.cdp_host_seats.specs.Losses.{is_for_memory, losses_from}
use Rattle.cdp_host_turns.specs.declared.state.State.{State}
use Rattle.cdp_host_turns.specs.declared.state.State.TheVariants as states
use Rattle.cdp_host.specs.Histories.{Meaning, apply}
use Rattle.cdp_host.specs.Protocols.{protocol, replied, texts_fit}
use Rattle.cdp_host.specs.Rules.{printed_between}
use Rattle.cdp_host.specs.States.{state_of}
use Rattle.cdp_journal.specs.Escapes.{escaped, printed_escaped}

-- a line of output
pub data Output : Type 0 where
  -- a session of this number was attached
  Attached : ℕ → Output
  -- the session of this number was sent this text
  To : ℕ → List ℕ → Output
  -- the program printed this text of UTF-16 units
  Out : List ℕ → Output
  -- the session of this number was lost: more texts would have waited for it than may
  Overran : ℕ → Output
  -- a run made so many steps and ended in this state
  RanTo : ℕ → State → Output

-- a state's name
abbrev pub state_name : State → List ℕ
state_name states.Broken = codes "broken"
state_name states.Shut = codes "shut"
state_name states.Threw = codes "threw"
state_name states.Ended = codes "ended"
state_name states.Paused = codes "paused"
state_name states.Waiting = codes "waiting"
state_name states.Ready = codes "ready"

-- the text of a line of output, ended by LF
abbrev pub output_text : Output → List ℕ
output_text (Attached s) = codes "attached " ++ (decimal s ++ 10 ∷ [])
output_text (To s text) = codes "to " ++ (decimal s ++ 32 ∷ (escaped text ++ 10 ∷ []))
output_text (Out units) = codes "out " ++ (printed_escaped units ++ 10 ∷ [])
output_text (Overran s) = codes "overrun " ++ (decimal s ++ 10 ∷ [])
output_text (RanTo steps state) = codes "ran " ++ (decimal steps ++ 32 ∷ (state_name state ++ 10 ∷ []))

-- the texts of the answer to a text don't fit behind those that wait for the session of this seat
abbrev pub overruns : List Script → Meaning Program → List ℕ → Seat Session → Bool
overruns scripts m text (AttachedSeat x) = not (texts_fit (replied scripts m.stop m.program text x))
overruns scripts m text (Lost loss is_reported is_told) = false
overruns scripts m text Left = false

-- the numbers of those of these sessions that were lost by too many texts
abbrev pub overrun_in : List SessionLost → List ℕ
overrun_in [] = []
overrun_in (lost ∷ losses) = if is_for_memory lost.loss then overrun_in losses else lost.session ∷ overrun_in losses

-- the numbers of the sessions that a run tells were lost by too many texts, in ascending order
abbrev pub overrun_at : List Script → ℕ → List ℕ → ℕ → Meaning Program → List ℕ
overrun_at scripts moment gone n m = overrun_in (losses_from 1 (after_run (protocol scripts) moment gone n m).seats)

-- the texts that a run prints
abbrev pub printed_at : List Script → ℕ → List ℕ → ℕ → Meaning Program → List (List ℕ)
printed_at scripts moment gone n m = printed_between m.program (after_run (protocol scripts) moment gone n m).program

-- the lines of output of an entry; a session is lost by a command whose answer's texts don't fit, or told by a run
abbrev pub output_at : List Script → Meaning Program → Entry → List Output
output_at scripts m Attach = Attached (length m.seats + 1) ∷ []
output_at scripts m (Tell s text) = if overruns scripts m text (seat_of s m.seats) then Overran s ∷ [] else []
output_at scripts m (Take s) = map (To s) (waiting (protocol scripts) (seat_of s m.seats))
output_at scripts m (Detach s) = []
output_at scripts m (Ran n moment gone) =
    map Out (printed_at scripts moment gone n m)
    ++ (map Overran (overrun_at scripts moment gone n m) ++ RanTo n (state_of (apply scripts m (Ran n moment gone)))
    ∷ [])
output_at scripts m Shut = []

-- the lines of output of a history
abbrev pub output_of : List Script → Meaning Program → List Entry → List Output
output_of scripts m [] = []
output_of scripts m (entry ∷ history) = output_at scripts m entry ++ output_of scripts (apply scripts m entry) history

-- texts, one behind another
abbrev pub joined : List (List ℕ) → List ℕ
joined [] = []
joined (text ∷ texts) = text ++ joined texts

-- the bytes of lines of output
abbrev pub output_bytes : List Output → List ℕ
output_bytes lines = joined (map output_text lines)
