-- The JSON values for which those of the code stand.
use Rattle.std.specs.Prelude.{ℕ, List, map}
use Rattle.cdp_json.specs.Json as json
use Rattle.cdp_json.specs.Json.{items_of, members_of}
use Rattle.cdp_json.specs.declared.value.Json.{Json}
use Rattle.cdp_json.specs.declared.value.JsonList.{JsonList}
use Rattle.cdp_json.specs.declared.value.JsonObject.{JsonObject}
use Rattle.cdp_json.specs.declared.value.Member.{Member}
use Rattle.cdp_json.specs.declared.value.Json.TheOpen.{Json-F, JsonList-F, JsonObject-F, Member-F}
use Rattle.cdp_json.specs.declared.value.Json.TheFolds.{fold-Json, fold-JsonList, fold-JsonObject, fold-Member}

-- one level of each type, with the views of its parts
abbrev pub json_layer : Json-F json.Json json.Items json.Members (List ℕ × json.Json) → json.Json
json_layer Json-F.Null = json.null
json_layer (Json-F.Bool b) = json.boolean b
json_layer (Json-F.Number n) = json.number n
json_layer (Json-F.Text s) = json.text s
json_layer (Json-F.List l) = json.list l
json_layer (Json-F.Object o) = json.object o

-- a list of values that were seen
abbrev pub list_layer : JsonList-F json.Json json.Items json.Members (List ℕ × json.Json) → json.Items
list_layer l = items_of l.items.items

-- an object of members that were seen
abbrev pub object_layer : JsonObject-F json.Json json.Items json.Members (List ℕ × json.Json) → json.Members
object_layer o = members_of o.members.items

-- a member whose value was seen
abbrev pub member_layer : Member-F json.Json json.Items json.Members (List ℕ × json.Json) → List ℕ × json.Json
member_layer m = (m.key, m.value)

-- a value
unfoldable pub json_view : Json → json.Json
json_view =
    fold-Json json.Json json.Items json.Members (List ℕ × json.Json) json_layer list_layer object_layer member_layer

-- the values of a list
unfoldable pub list_view : JsonList → json.Items
list_view =
    fold-JsonList json.Json json.Items json.Members (List ℕ × json.Json) json_layer list_layer object_layer member_layer

-- the members of an object
unfoldable pub object_view : JsonObject → json.Members
object_view =
    fold-JsonObject json.Json json.Items json.Members (List ℕ × json.Json)
    json_layer list_layer object_layer member_layer

-- a member, with its key
unfoldable pub member_view : Member → List ℕ × json.Json
member_view =
    fold-Member json.Json json.Items json.Members (List ℕ × json.Json) json_layer list_layer object_layer member_layer

-- values, in the order of a vector
abbrev pub items_view : List Json → json.Items
items_view js = items_of (map json_view js)

-- members, in the order of a vector
abbrev pub members_view : List Member → json.Members
members_view ms = members_of (map member_view ms)
