-- The arguments of a function that is called (Chrome DevTools Protocol 1.3, `Runtime.CallArgument`).
use Rattle.std.specs.Prelude.{ℕ, List, [], ◌∷◌, Bool, ◌&&◌, if◌then◌else◌, codes, Option, Some, None, is_some, is_none, option_map, option_and_then}
use Rattle.serde_json.specs.Data as values
use Rattle.serde_json.specs.Data.{Data}
use Rattle.serde_json.specs.Find.{get, as_array, as_object}
use Rattle.cdp_json.specs.Json.{Json}
use Rattle.cdp_json.specs.Members.{text_of}
use Rattle.cdp_json.specs.SafeValues.{both, safe_value_of}

-- a JSON value, the object of an id, or undefined
pub data Argument : Type 0 where
  a_value : Json → Argument
  an_object : List ℕ → Argument
  undefined : Argument

-- an argument of this `value`, if it has one
abbrev pub value_from : Option Data → Option Argument
value_from None = Some undefined
value_from (Some d) = option_map a_value (safe_value_of d)

-- an argument of this `objectId`, if it has one; its `value` isn't read then
abbrev pub object_or_value : Option Data → Data → Option Argument
object_or_value None d = value_from (get (codes "value") d)
object_or_value (Some id) d = option_map an_object (text_of id)

-- an object without the member `unserializableValue`
abbrev pub is_serializable : Data → Bool
is_serializable d = is_some (as_object d) && is_none (get (codes "unserializableValue") d)

-- `value?, objectId?`
abbrev pub argument_of : Data → Option Argument
argument_of d = if is_serializable d then object_or_value (get (codes "objectId") d) d else None

-- the arguments of a list, in order
abbrev pub arguments_from : values.Items → Option (List Argument)
arguments_from values.no_items = Some []
arguments_from (values.item d ds) = both ◌∷◌ (argument_of d) (arguments_from ds)

-- a list of arguments, or absent, which is read as no arguments
abbrev pub given_arguments : Option Data → Option (List Argument)
given_arguments None = Some []
given_arguments (Some d) = option_and_then arguments_from (as_array d)

-- `arguments?`
abbrev pub arguments_of : Data → Option (List Argument)
arguments_of d = given_arguments (get (codes "arguments") d)
