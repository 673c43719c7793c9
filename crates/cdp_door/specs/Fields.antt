-- Header fields: the first of a name, and the words of its value (RFC 9110, sections 5.1 to 5.6).
use Rattle.std.specs.Prelude.{ℕ, List, [], ◌∷◌, Bool, false, ◌==◌, if◌then◌else◌, Option, Some, None}
use Rattle.std.specs.List.{list_any}
use Rattle.std.specs.Str.{str_eq_ignore_ascii_case}
use Rattle.httparse.specs.Grammar.{trim_ows}
use Rattle.cdp_text.specs.Lines.{begun_with}

-- the value of the first field of this name; names have no ASCII case
abbrev pub first_value : List ℕ → List (List ℕ × List ℕ) → Option (List ℕ)
first_value name [] = None
first_value name (field ∷ fields) =
    if str_eq_ignore_ascii_case field.0 name then Some field.1 else first_value name fields

-- what stands between the commas, the byte 44
abbrev pub parts_of : List ℕ → List (List ℕ)
parts_of [] = [] ∷ []
parts_of (byte ∷ value) = if byte == 44 then [] ∷ parts_of value else begun_with byte (parts_of value)

-- a part is this word but for the spaces and tabs around it and for ASCII case
abbrev pub is_word : List ℕ → List ℕ → Bool
is_word word part = str_eq_ignore_ascii_case (trim_ows part) word

-- a value has this word among its parts
abbrev pub has_word : List ℕ → List ℕ → Bool
has_word word value = list_any (is_word word) (parts_of value)

-- there is a value, and it passes this test
abbrev pub is_there_and : (List ℕ → Bool) → Option (List ℕ) → Bool
is_there_and test None = false
is_there_and test (Some value) = test value
