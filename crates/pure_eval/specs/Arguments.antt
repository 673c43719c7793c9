-- The arguments of a call, as the definition has them.
use Rattle.std.specs.Prelude.{ℕ, ◌+◌, List, [], ◌∷◌}
use Rattle.cdp_json.specs.Json.{Json as AnyJson, Items, Members as AnyMembers, null, boolean, number, text, list, object, no_items, item, no_members as no_pairs, member as pair}
use Rattle.cdp_json.specs.Views.{json_view}
use Rattle.js_semantics.specs.Evaluation.{Json, json_null, json_bool, json_number, json_string, json_array, json_object, Jsons, no_jsons, a_json, Members, no_members, a_member, Argument as AnyArgument, given, made_of}
use Rattle.pure_eval.specs.declared.arguments.Argument.{Argument}
use Rattle.pure_eval.specs.declared.arguments.Argument.TheVariants as arguments

-- a JSON value, the values of a list and the members of an object, as the definition has them
abbrev mutual
  -- a JSON value as the definition has it
  pub json_of : AnyJson → Json
  json_of null = json_null
  json_of (boolean b) = json_bool b
  json_of (number z) = json_number z
  json_of (text us) = json_string us
  json_of (list js) = json_array (jsons_of js)
  json_of (object ms) = json_object (members_of ms)

  -- the values of a list as the definition has them
  pub jsons_of : Items → Jsons
  jsons_of no_items = no_jsons
  jsons_of (item j js) = a_json (json_of j) (jsons_of js)

  -- the members of an object as the definition has them
  pub members_of : AnyMembers → Members
  members_of no_pairs = no_members
  members_of (pair key j ms) = a_member key (json_of j) (members_of ms)

-- an argument as the definition has it
abbrev pub argument_of : Argument → AnyArgument
argument_of (arguments.Given v) = given v
argument_of (arguments.Json j) = made_of (json_of (json_view j))

-- arguments as the definition has them, in order
abbrev pub arguments_of : List Argument → List AnyArgument
arguments_of [] = []
arguments_of (a ∷ rest) = argument_of a ∷ arguments_of rest

-- ---- how many values a JSON value is made of, itself included

-- the number of values in a JSON value, in the values of a list and in the members of an object
abbrev mutual
  -- the number of values in a JSON value
  pub json_size : AnyJson → ℕ
  json_size null = 1
  json_size (boolean b) = 1
  json_size (number z) = 1
  json_size (text us) = 1
  json_size (list js) = items_size js + 1
  json_size (object ms) = members_size ms + 1

  -- the number of values in the values of a list
  pub items_size : Items → ℕ
  items_size no_items = 0
  items_size (item j js) = json_size j + items_size js

  -- the number of values in the members of an object
  pub members_size : AnyMembers → ℕ
  members_size no_pairs = 0
  members_size (pair key j ms) = json_size j + members_size ms
