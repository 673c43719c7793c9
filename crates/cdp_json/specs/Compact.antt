-- The compact text of a JSON value: no blanks, keys in the order of their units, in UTF-8.
use Rattle.std.specs.Prelude.{ℕ, List, [], ◌∷◌, ◌++◌, map, codes, true, false, nat_lt, if◌then◌else◌}
use Rattle.std.specs.Fmt.{signed_decimal}
use Rattle.json.specs.Print.{quoted}
use Rattle.cdp_text.specs.Units.{utf8_of}
use Rattle.cdp_json.specs.Json.{Json, null, boolean, number, text, list, object, Items, no_items, item, Members, no_members, member}
use Rattle.cdp_json.specs.KeyOrder.{in_order}

-- a text in quotes: `"`, `\` and the controls below U+0020 are escaped, and a surrogate without a partner is U+FFFD
abbrev pub string_text : List ℕ → List ℕ
string_text units = quoted (utf8_of units)

-- texts, each behind a comma
abbrev pub behind_commas : List (List ℕ) → List ℕ
behind_commas [] = []
behind_commas (t ∷ ts) = 44 ∷ (t ++ behind_commas ts)

-- texts with commas between them
abbrev pub with_commas : List (List ℕ) → List ℕ
with_commas [] = []
with_commas (t ∷ ts) = t ++ behind_commas ts

-- what stands before the text of this number
abbrev pub comma_before : ℕ → List ℕ
comma_before turn = if nat_lt 0 turn then 44 ∷ [] else []

-- a member of this key and this value's text
abbrev pub member_text : List ℕ × List ℕ → List ℕ
member_text m = string_text m.0 ++ 58 ∷ m.1

-- members of these keys and values' texts, in the order of the keys
abbrev pub ordered_text : List (List ℕ × List ℕ) → List ℕ
ordered_text ms = with_commas (map member_text (in_order (λ m. m.0) ms))

-- the text of a value, and those of the values of a list and of an object
abbrev mutual
  -- the text of a value
  pub compact_text : Json → List ℕ
  compact_text null = codes "null"
  compact_text (boolean true) = codes "true"
  compact_text (boolean false) = codes "false"
  compact_text (number z) = signed_decimal z
  compact_text (text s) = string_text s
  compact_text (list js) = 91 ∷ (with_commas (item_texts js) ++ 93 ∷ [])
  compact_text (object ms) = 123 ∷ (ordered_text (member_texts ms) ++ 125 ∷ [])

  -- the text of each value
  pub item_texts : Items → List (List ℕ)
  item_texts no_items = []
  item_texts (item j js) = compact_text j ∷ item_texts js

  -- each key with its value's text
  pub member_texts : Members → List (List ℕ × List ℕ)
  member_texts no_members = []
  member_texts (member k j ms) = (k, compact_text j) ∷ member_texts ms

-- the text of a list
abbrev pub list_text : Items → List ℕ
list_text js = compact_text (list js)

-- the text of an object
abbrev pub object_text : Members → List ℕ
object_text ms = compact_text (object ms)

-- the text between the braces of an object
abbrev pub members_text : Members → List ℕ
members_text ms = ordered_text (member_texts ms)
