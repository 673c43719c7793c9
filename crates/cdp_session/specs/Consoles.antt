-- How a session is told of what the program printed (Chrome DevTools Protocol 1.3, `Runtime.consoleAPICalled`).
use Rattle.std.specs.Prelude.{ℕ, List, [], ◌∷◌, codes, if◌then◌else◌, Some}
use Rattle.js_heap.specs.declared.value.Value.{Value}
use Rattle.object_groups.specs.Handles as handles
use Rattle.cdp_json.specs.Json.{Json}
use Rattle.remote_objects.specs.Making.{Made, made_all}
use Rattle.remote_objects.specs.Remote.{remote}
use Rattle.remote_objects.specs.Sights.{Sight}
use Rattle.cdp_session_messages.specs.Prints.{print_text}
use Rattle.cdp_session.specs.Pauses.{sight_of}
use Rattle.cdp_session.specs.Sessions.{Session, sent, with_handles}
use Rattle.cdp_session.specs.Situations.{Situation}

-- ---- values that were printed

-- the group of what is described of a print, or of a throw that ended the run
abbrev pub console : List ℕ
console = codes "console"

-- a value in that group, without a preview
abbrev pub value_made : Sight → Value → handles.HeldHandles → Made Json
value_made sight v h = remote sight (Some console) v h

-- values, in order
abbrev pub values_made : Sight → List Value → handles.HeldHandles → Made (List Json)
values_made sight values h = made_all (value_made sight) values h

-- ---- what a print does to a session

-- the values as they are described to the session
abbrev pub values_told : Situation → List Value → Session → Made (List Json)
values_told s values x = values_made (sight_of s x) values x.handles

-- the session is told, and holds the objects that were named
abbrev pub print_told : Situation → List Value → ℕ → Session → Session
print_told s values moment x =
    sent (print_text (values_told s values x).made moment ∷ []) (with_handles (values_told s values x).handles x)

-- one that has the domain Runtime enabled
abbrev pub printed : Situation → List Value → ℕ → Session → Session
printed s values moment x = if x.runtime then print_told s values moment x else x

-- the texts of that
abbrev pub printed_texts : Situation → List Value → ℕ → Session → List (List ℕ)
printed_texts s values moment x = if x.runtime then print_text (values_told s values x).made moment ∷ [] else []
