-- What a value of each kind looks like.
use Rattle.std.proofs.Common.{◌≡◌, ℕ, ℤ, List, Bool, sym, ap, ◌∙◌}
use Rattle.std.specs.Global.{Vec}
use Rattle.cdp_json.specs.Json as json
use Rattle.cdp_json.specs.Parts.{Pair}
use Rattle.cdp_json.specs.declared.value.Json.{Json}
use Rattle.cdp_json.specs.declared.value.JsonList.{JsonList}
use Rattle.cdp_json.specs.declared.value.JsonObject.{JsonObject}
use Rattle.cdp_json.specs.declared.value.Member.{Member}
use Rattle.cdp_json.specs.declared.value.Json.TheOpen.{Json-F}
use Rattle.cdp_json.specs.declared.value.Json.TheFolds.{fold-roll-Json, fold-roll-JsonList, fold-roll-JsonObject, fold-roll-Member, fold_out-JsonList, fold_out-JsonObject, fold_out-Member}
use Rattle.cdp_json.specs.declared.value.Json.TheVariants.{rolls-Null, rolls-Bool, rolls-Number, rolls-Text, rolls-List, rolls-Object}
use Rattle.cdp_json.specs.declared.value.Json.TheViews as views
use Rattle.cdp_json.specs.Views.{json_view, list_view, object_view, member_view, json_layer, list_layer, object_layer, member_layer, items_view, members_view}

pub view_null : json_view Json.Null ≡ json.null
unfolding json_view list_view object_view member_view
view_null =
    ap json_view (sym rolls-Null)
    ∙ fold-roll-Json json.Json json.Items json.Members Pair json_layer list_layer object_layer member_layer Json-F.Null

pub view_bool : (b : Bool) → json_view (Json.Bool b) ≡ json.boolean b
unfolding json_view list_view object_view member_view
view_bool b =
    ap json_view (sym (rolls-Bool b))
    ∙ fold-roll-Json json.Json json.Items json.Members Pair json_layer list_layer object_layer member_layer
    (Json-F.Bool b)

pub view_number : (n : ℤ) → json_view (Json.Number n) ≡ json.number n
unfolding json_view list_view object_view member_view
view_number n =
    ap json_view (sym (rolls-Number n))
    ∙ fold-roll-Json json.Json json.Items json.Members Pair json_layer list_layer object_layer member_layer
    (Json-F.Number n)

pub view_text : (s : List ℕ) → json_view (Json.Text s) ≡ json.text s
unfolding json_view list_view object_view member_view
view_text s =
    ap json_view (sym (rolls-Text s))
    ∙ fold-roll-Json json.Json json.Items json.Members Pair json_layer list_layer object_layer member_layer
    (Json-F.Text s)

pub view_list_of : (l : JsonList) → json_view (views.List l) ≡ json.list (list_view l)
unfolding json_view list_view object_view member_view
view_list_of l =
    ap json_view (sym (rolls-List l))
    ∙ fold-roll-Json json.Json json.Items json.Members Pair json_layer list_layer object_layer member_layer
    (Json-F.List l)

pub view_object_of : (o : JsonObject) → json_view (Json.Object o) ≡ json.object (object_view o)
unfolding json_view list_view object_view member_view
view_object_of o =
    ap json_view (sym (rolls-Object o))
    ∙ fold-roll-Json json.Json json.Items json.Members Pair json_layer list_layer object_layer member_layer
    (Json-F.Object o)

pub view_list : (items : Vec Json) → list_view (views.roll-JsonList (record { items = items })) ≡ items_view items.items
unfolding json_view list_view object_view member_view
view_list items =
    fold-roll-JsonList json.Json json.Items json.Members Pair json_layer list_layer object_layer member_layer
    (record { items = items })

pub list_items : (l : JsonList) → list_view l ≡ items_view l.items.items
unfolding json_view list_view object_view member_view
list_items l =
    fold_out-JsonList json.Json json.Items json.Members Pair json_layer list_layer object_layer member_layer l

pub view_object : (members : Vec Member)
    → object_view (views.roll-JsonObject (record { members = members })) ≡ members_view members.items
unfolding json_view list_view object_view member_view
view_object members =
    fold-roll-JsonObject json.Json json.Items json.Members Pair json_layer list_layer object_layer member_layer
    (record { members = members })

pub object_members : (o : JsonObject) → object_view o ≡ members_view (views.out-JsonObject o).members.items
unfolding json_view list_view object_view member_view
object_members o =
    fold_out-JsonObject json.Json json.Items json.Members Pair json_layer list_layer object_layer member_layer o

pub view_member : (k : List ℕ) (v : Json)
    → member_view (views.roll-Member (record { key = k; value = v })) ≡ (k, json_view v)
unfolding json_view list_view object_view member_view
view_member k v =
    fold-roll-Member json.Json json.Items json.Members Pair json_layer list_layer object_layer member_layer
    (record { key = k; value = v })

pub member_parts : (m : Member) → member_view m ≡ (m.key, json_view m.value)
unfolding json_view list_view object_view member_view
member_parts m =
    fold_out-Member json.Json json.Items json.Members Pair json_layer list_layer object_layer member_layer m

pub ruleset json_laws = (view_null, view_bool, view_number, view_text, view_list_of, view_object_of)
