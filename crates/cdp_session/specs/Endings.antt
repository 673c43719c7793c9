-- How a session is told of the end of the run (Chrome DevTools Protocol 1.3, `Runtime.exceptionThrown` and
-- `Runtime.executionContextDestroyed`).
use Rattle.std.specs.Prelude.{ℕ, List, [], ◌∷◌, ◌++◌, if◌then◌else◌}
use Rattle.cdp_text.specs.declared.position.Place.{Place}
use Rattle.js_heap.specs.declared.value.Value.{Value}
use Rattle.cdp_json.specs.Json.{Json}
use Rattle.remote_objects.specs.Making.{Made}
use Rattle.cdp_session_messages.specs.Ends.{context_destroyed_text, throw_details, throw_text, url_at}
use Rattle.cdp_session.specs.Consoles.{value_made}
use Rattle.cdp_session.specs.Pauses.{sight_of}
use Rattle.cdp_session.specs.Sessions.{Session, sent, with_exception, with_handles}
use Rattle.cdp_session.specs.Situations.{Situation}
use Rattle.cdp_session.specs.declared.ending.Ending.{Ending}
use Rattle.cdp_session.specs.declared.ending.Ending.TheVariants as endings

-- ---- what the end does to a session

-- the value that was thrown, as it is described to the session
abbrev pub exception_told : Situation → Value → Session → Made Json
exception_told s v x = value_made (sight_of s x) v x.handles

-- what the session is told of the throw; it is one exception more
abbrev pub details_told : Situation → Value → Place → Session → Json
details_told s v place x =
    throw_details place (exception_told s v x).made (with_exception x).exceptions (url_at s.scripts place)

-- the event of the throw, with the objects that the session holds behind it
abbrev pub throw_told : Situation → Value → Place → ℕ → Session → Made (List ℕ)
throw_told s v place moment x =
    record { made = throw_text (details_told s v place x) moment; handles = (exception_told s v x).handles }

-- the session is told of the throw that ended the run, if one did
abbrev pub ending_told : Situation → Ending → ℕ → Session → Session
ending_told s endings.Finished moment x = x
ending_told s (endings.Threw v place) moment x =
    sent ((throw_told s v place moment x).made ∷ [])
    (with_exception (with_handles (throw_told s v place moment x).handles x))

-- then that its context is no more
abbrev pub end_told : Situation → Ending → ℕ → Session → Session
end_told s ending moment x = sent (context_destroyed_text ∷ []) (ending_told s ending moment x)

-- one that has the domain Runtime enabled
abbrev pub ended : Situation → Ending → ℕ → Session → Session
ended s ending moment x = if x.runtime then end_told s ending moment x else x

-- ---- the texts of that

-- what is said of how the run ended: nothing of an end by itself, its throw of one by a throw
abbrev pub ending_texts : Situation → Ending → ℕ → Session → List (List ℕ)
ending_texts s endings.Finished moment x = []
ending_texts s (endings.Threw v place) moment x = (throw_told s v place moment x).made ∷ []

-- the throw, if one ended the run, and then the end
abbrev pub ended_texts : Situation → Ending → ℕ → Session → List (List ℕ)
ended_texts s ending moment x = if x.runtime then ending_texts s ending moment x ++ context_destroyed_text ∷ [] else []
