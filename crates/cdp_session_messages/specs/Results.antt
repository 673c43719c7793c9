-- The JSON values of results and events (Chrome DevTools Protocol 1.3, domains Debugger and Runtime).
use Rattle.std.specs.Prelude.{ℕ, pos, List, [], ◌∷◌, ◌++◌, map, codes, Option, Some, None}
use Rattle.cdp_text.specs.declared.position.Place.{Place}
use Rattle.cdp_json.specs.Json.{Json, number, text}
use Rattle.cdp_json.specs.Parts.{Pair, object_of, list_of, nothing, place_pairs, location}
use Rattle.cdp_json.specs.Messages.{event_text}
use Rattle.locations.specs.declared.spot.Spot.{Spot}
use Rattle.locations.specs.declared.spot.SpotKind.{SpotKind}
use Rattle.locations.specs.declared.spot.SpotKind.TheVariants as kinds
use Rattle.breakpoints.specs.Resolving.{place_in}

-- the result of enabling the debugger
abbrev pub debugger_id : Json
debugger_id = object_of ((codes "debuggerId", text (codes "1")) ∷ [])

-- ---- locations

-- the name of a kind of break locations; a plain one has none
abbrev pub kind_name : SpotKind → Option (List ℕ)
kind_name kinds.Plain = None
kind_name kinds.Debugger = Some (codes "debuggerStatement")
kind_name kinds.Return = Some (codes "return")
kind_name kinds.Call = Some (codes "call")

-- the member `type` of a break location, where its kind has a name
abbrev pub name_pairs : Option (List ℕ) → List Pair
name_pairs None = []
name_pairs (Some name) = (codes "type", text name) ∷ []

-- the member `type` of a break location of this kind
abbrev pub kind_pairs : SpotKind → List Pair
kind_pairs kind = name_pairs (kind_name kind)

-- a break location of the script of this number
abbrev pub spot_location : ℕ → Spot → Json
spot_location script s = object_of (place_pairs (place_in script s) ++ kind_pairs s.kind)

-- break locations of the script of this number
abbrev pub spot_locations : ℕ → List Spot → Json
spot_locations script spots = object_of ((codes "locations", list_of (map (spot_location script) spots)) ∷ [])

-- ---- breakpoints

-- a breakpoint by URL that was set: its id, and where it resolved
abbrev pub set_by_url : List ℕ → List Place → Json
set_by_url id places =
    object_of ((codes "breakpointId", text id) ∷ (codes "locations", list_of (map location places)) ∷ [])

-- a breakpoint at a location that was set
abbrev pub set_at : List ℕ → Place → Json
set_at id place = object_of ((codes "actualLocation", location place) ∷ (codes "breakpointId", text id) ∷ [])

-- ---- sources

-- the result that has the source of a script
abbrev pub script_source : List ℕ → Json
script_source source = object_of ((codes "scriptSource", text source) ∷ [])

-- ---- objects

-- the properties of an object, in order
abbrev pub properties : List Json → Json
properties values = object_of ((codes "result", list_of values) ∷ [])

-- the names that scripts have declared, in order
abbrev pub declared_names : List (List ℕ) → Json
declared_names names = object_of ((codes "names", list_of (map text names)) ∷ [])

-- ---- events

-- the only context, in which the scripts run
abbrev pub context : Json
context =
    object_of
    ((codes "id", number (pos 1)) ∷ (codes "name", text (codes "debug_host")) ∷ (codes "origin", text []) ∷ [])

-- the event that tells of it
abbrev pub context_created_text : List ℕ
context_created_text =
    event_text (codes "Runtime.executionContextCreated") (object_of ((codes "context", context) ∷ []))

-- The program stopped: its frames from the top one outward, the value that was thrown, where the session is told of
-- one, the ids of the breakpoints that it hit, and why.
abbrev pub paused_params : List Json → List Pair → List (List ℕ) → List ℕ → Json
paused_params frames thrown hits reason =
    object_of
    ((codes "callFrames", list_of frames) ∷
    (thrown ++ ((codes "hitBreakpoints", list_of (map text hits)) ∷ (codes "reason", text reason) ∷ [])))

-- the event that says so
abbrev pub paused_text : List Json → List Pair → List (List ℕ) → List ℕ → List ℕ
paused_text frames thrown hits reason = event_text (codes "Debugger.paused") (paused_params frames thrown hits reason)

-- the program went on
abbrev pub resumed_text : List ℕ
resumed_text = event_text (codes "Debugger.resumed") nothing
