-- The members of a JSON value, as a client reads them.
use Rattle.std.specs.Prelude.{ℕ, List, bytes_eq, if◌then◌else◌, Option, Some, None}
use Rattle.cdp_json.specs.Json.{Json, Members, object, no_members, member}

-- the value of the first member of this key
abbrev pub value_in : List ℕ → Members → Option Json
value_in key no_members = None
value_in key (member k j ms) = if bytes_eq k key then Some j else value_in key ms

-- the value of an object's member of this key; what isn't an object has none
abbrev pub value_of : List ℕ → Json → Option Json
value_of key (object ms) = value_in key ms
value_of key j = None
