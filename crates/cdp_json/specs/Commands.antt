-- The reading of commands: JSON, an object, its `id`, its `method`, the method's name, its parameters. The first that
-- fails refuses the text.
use Rattle.std.specs.Prelude.{ℕ, ◌^◌, List, nat_lt, if◌then◌else◌, codes, Option, Some, None, is_some, option_and_then}
use Rattle.cdp_text.specs.Units.{utf16_of}
use Rattle.serde_json.specs.Data.{Data, null}
use Rattle.serde_json.specs.Find.{get, as_number, as_str, as_u64, as_object}
use Rattle.cdp_json.specs.Members.{required}
use Rattle.cdp_json.specs.Methods.{method_of}
use Rattle.cdp_json.specs.Parameters.{params_of}
use Rattle.cdp_json.specs.declared.command.Reading.{Reading}
use Rattle.cdp_json.specs.declared.command.Reading.TheVariants.{Command, Refused}
use Rattle.cdp_json.specs.declared.method.Method.{Method}
use Rattle.cdp_json.specs.declared.params.Params.{Params}
use Rattle.cdp_json.specs.declared.refusal.Refusal.TheVariants as refusals

-- an integer from 0 to 2^53-1, without fraction or exponent
abbrev pub if_safe : ℕ → Option ℕ
if_safe n = if nat_lt n (2 ^ 53) then Some n else None

-- the `id` of a command, where it is a safe integer
abbrev pub id_of : Data → Option ℕ
id_of d = option_and_then if_safe (option_and_then as_u64 (option_and_then as_number (get (codes "id") d)))

-- the parameters: an object, or absent, which is read as a value without members
abbrev pub given_from : Option Data → Option Data
given_from None = Some null
given_from (Some d) = if is_some (as_object d) then Some d else None

-- the `params` of a command, where they are an object or absent
abbrev pub given_of : Data → Option Data
given_of d = given_from (get (codes "params") d)

-- a command of this id and method, where it has these parameters
abbrev pub with_params : ℕ → Method → Option Params → Reading
with_params id method None = Refused (Some id) refusals.InvalidParameters
with_params id method (Some params) = Command id method params

-- a command of this id and method, where its `params` are an object or absent
abbrev pub with_given : ℕ → Method → Option Data → Reading
with_given id method None = Refused (Some id) refusals.InvalidParameters
with_given id method (Some d) = with_params id method (params_of method d)

-- a command of this id, where it has a method of this name
abbrev pub with_method : ℕ → List ℕ → Data → Option Method → Reading
with_method id name d None = Refused (Some id) (refusals.UnknownMethod (utf16_of name))
with_method id name d (Some method) = with_given id method (given_of d)

-- a command of this id, where its `method` is a text
abbrev pub with_name : ℕ → Data → Option (List ℕ) → Reading
with_name id d None = Refused (Some id) refusals.NoMethod
with_name id d (Some name) = with_method id name d (method_of name)

-- a command, where its `id` is a safe integer
abbrev pub with_id : Data → Option ℕ → Reading
with_id d None = Refused None refusals.NoId
with_id d (Some id) = with_name id d (required as_str (codes "method") d)

-- what a JSON value is read as
abbrev pub value_reading : Data → Reading
value_reading d = if is_some (as_object d) then with_id d (id_of d) else Refused None refusals.NotObject

-- what a text is read as that has this value, if it has one
abbrev pub reading_of : Option Data → Reading
reading_of None = Refused None refusals.NotJson
reading_of (Some d) = value_reading d
