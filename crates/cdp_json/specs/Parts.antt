-- Parts of messages: objects and lists of values, and places in scripts (Chrome DevTools Protocol 1.3,
-- `Debugger.Location`).
use Rattle.std.specs.Prelude.{ℕ, pos, List, [], ◌∷◌, codes, decimal}
use Rattle.cdp_text.specs.declared.position.Place.{Place}
use Rattle.cdp_json.specs.Json.{Json, number, text, list, object, items_of, members_of}

-- a key with its value
abbrev pub Pair : Type 0
Pair = List ℕ × Json

-- an object of these members
abbrev pub object_of : List Pair → Json
object_of pairs = object (members_of pairs)

-- a list of these values
abbrev pub list_of : List Json → Json
list_of values = list (items_of values)

-- an object without members
abbrev pub nothing : Json
nothing = object_of []

-- the members of a place: its column, its line and the id of its script
abbrev pub place_pairs : Place → List Pair
place_pairs p =
    (codes "columnNumber", number (pos p.pos.col)) ∷ (codes "lineNumber", number (pos p.pos.line)) ∷
    (codes "scriptId", text (decimal p.script)) ∷ []

-- a place as a location
abbrev pub location : Place → Json
location p = object_of (place_pairs p)
