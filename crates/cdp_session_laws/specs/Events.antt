-- What may happen to a session, and what the session is after that.
use Rattle.std.specs.Prelude.{ℕ, List, [], ◌∷◌}
use Rattle.js_heap.specs.declared.value.Value.{Value}
use Rattle.stepping.specs.declared.arrival.Arrival.{Arrival}
use Rattle.pure_eval.specs.Workspaces.{Workspace}
use Rattle.cdp_session.specs.declared.ending.Ending.{Ending}
use Rattle.cdp_session.specs.Consoles.{printed}
use Rattle.cdp_session.specs.Endings.{ended}
use Rattle.cdp_session.specs.Replies.{answer_of}
use Rattle.cdp_session.specs.Sessions.{Session, emptied, fresh}
use Rattle.cdp_session.specs.Situations.{Situation}
use Rattle.cdp_session.specs.Stops.{resumed, stopped}

-- its client sends a text; the program prints values at a moment, its run ends, it is stopped, it goes on; the texts
-- that wait are handed out
pub data Event : Type 0 where
  Texted : Situation → List ℕ → Event
  Printed : Situation → List Value → ℕ → Event
  Ended : Situation → Ending → ℕ → Event
  Stopped : Situation → ℕ → Arrival → Event
  Resumed : Event
  HandedOut : Event

-- a session after one of these
abbrev pub after_event : Event → Session → Session
after_event (Texted s text) x = (answer_of s x text).session
after_event (Printed s values moment) x = printed s values moment x
after_event (Ended s ending moment) x = ended s ending moment x
after_event (Stopped s number a) x = stopped s number a x
after_event Resumed x = resumed x
after_event HandedOut x = emptied x

-- after several, one after another
abbrev pub after_all : List Event → Session → Session
after_all [] x = x
after_all (e ∷ es) x = after_all es (after_event e x)

-- the session of a number that was attached and to which all this happened since; its evaluations began with this
abbrev pub lived : ℕ → Workspace → List Event → Session
lived number workspace es = after_all es (fresh number workspace)
