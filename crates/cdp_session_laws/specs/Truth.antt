-- Whether the reply to an evaluation says that its value is true (ECMA-262, 7.1.2, ToBoolean).
use Rattle.std.specs.Prelude.{ℕ, ℤ, pos, negsuc, zero, suc, Bool, true, false, List, [], ◌∷◌, codes, bytes_eq, is_some, if◌then◌else◌, Option, Some, None}
use Rattle.cdp_json.specs.Json.{Json, null, boolean, number, text, list, object}
use Rattle.cdp_json.specs.declared.params.Evaluation.{Evaluation}
use Rattle.cdp_session.specs.Rows.{Row, Refuses, Does}
use Rattle.cdp_session_laws.specs.Members.{value_of}

-- a number other than 0
abbrev pub is_other_than_0 : ℤ → Bool
is_other_than_0 (pos zero) = false
is_other_than_0 (pos (suc n)) = true
is_other_than_0 (negsuc n) = true

-- a text of at least one unit
abbrev pub has_units : List ℕ → Bool
has_units [] = false
has_units (u ∷ us) = true

-- what the member `value` of a remote object says; an object and a function have none
abbrev pub says_true : Option Json → Bool
says_true None = true
says_true (Some null) = false
says_true (Some (boolean b)) = b
says_true (Some (number z)) = is_other_than_0 z
says_true (Some (text units)) = has_units units
says_true (Some (list _)) = true
says_true (Some (object _)) = true

-- a text is this one
abbrev pub is_text : List ℕ → Option Json → Bool
is_text units (Some (text us)) = bytes_eq us units
is_text units o = false

-- a remote object is of a value that is true
abbrev pub shows_true : Option Json → Bool
shows_true None = false
shows_true (Some j) =
    if is_text (codes "undefined") (value_of (codes "type") j) then false else says_true (value_of (codes "value") j)

-- a result has no exception, and its value is true
abbrev pub result_is_true : Json → Bool
result_is_true j =
    if is_some (value_of (codes "exceptionDetails") j) then false else shows_true (value_of (codes "result") j)

-- a reply is such a result; a refusal isn't one
abbrev pub reply_is_true : Row → Bool
reply_is_true (Refuses why) = false
reply_is_true (Does done) = result_is_true done.result

-- a text is to be evaluated without effects, its value described with a handle in this group or in none
abbrev pub asked : List ℕ → Option (List ℕ) → Evaluation
asked source group = record {
  expression = source;
  object_group = group;
  return_by_value = false;
  generate_preview = false;
  throw_on_side_effect = true;
}
