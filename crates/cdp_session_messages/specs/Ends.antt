-- The events of the end of a run (Chrome DevTools Protocol 1.3, `Runtime.exceptionThrown` and
-- `Runtime.executionContextDestroyed`).
use Rattle.std.specs.Prelude.{ℕ, pos, List, [], ◌∷◌, codes}
use Rattle.cdp_text.specs.declared.position.Place.{Place}
use Rattle.js_tree.specs.declared.script.Script.{Script}
use Rattle.js_tree.specs.Scripts.{script_numbered}
use Rattle.cdp_json.specs.Json.{Json, number, text}
use Rattle.cdp_json.specs.Messages.{event_text}
use Rattle.cdp_json.specs.Parts.{Pair, object_of}
use Rattle.remote_objects.specs.CallFrames.{url_of}
use Rattle.cdp_session_messages.specs.Scripts.{script_id}

-- ---- a throw that ended the run

-- the URL of the script that a place is in; that of no script is empty
abbrev pub url_at : List Script → Place → List ℕ
url_at scripts place = url_of (script_numbered scripts place.script)

-- where the throw stands, the exception as it is described, its number among those of the session, and the URL of its
-- script
abbrev pub throw_pairs : Place → Json → ℕ → List ℕ → List Pair
throw_pairs place exception id url =
    (codes "columnNumber", number (pos place.pos.col))
    ∷ (codes "exception", exception)
    ∷ (codes "exceptionId", number (pos id))
    ∷ (codes "lineNumber", number (pos place.pos.line))
    ∷ (codes "scriptId", text (script_id place.script))
    ∷ (codes "text", text (codes "Uncaught"))
    ∷ (codes "url", text url) ∷ []

-- what is told of a throw, as an object
abbrev pub throw_details : Place → Json → ℕ → List ℕ → Json
throw_details place exception id url = object_of (throw_pairs place exception id url)

-- what is told of a throw at a moment
abbrev pub throw_params : Json → ℕ → Json
throw_params details moment =
    object_of ((codes "exceptionDetails", details) ∷ (codes "timestamp", number (pos moment)) ∷ [])

-- the event of a throw
abbrev pub throw_text : Json → ℕ → List ℕ
throw_text details moment = event_text (codes "Runtime.exceptionThrown") (throw_params details moment)

-- ---- the end

-- the only context, in which the scripts ran
abbrev pub context_params : Json
context_params = object_of ((codes "executionContextId", number (pos 1)) ∷ [])

-- the event that says that it is no more
abbrev pub context_destroyed_text : List ℕ
context_destroyed_text = event_text (codes "Runtime.executionContextDestroyed") context_params
