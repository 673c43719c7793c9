-- JSON values as lists of words, each word behind those of its parts, by which two values are told apart.
use Rattle.std.specs.Prelude.{◌≡◌, ℕ, ℤ, List, [], ◌∷◌, Bool, refl, fold}
use Rattle.std.proofs.Common.{ap, ◌∙◌}
use Rattle.std.specs.Coded.{Coded, code_by, coded_list, codes}
use Rattle.cdp_json.specs.Json.{Json, null, boolean, number, text, list, object, Items, no_items, item, Members, no_members, member}

-- a word: a value without parts, or what stands between the parts of a list or an object
pub data Word : Type 0 where
  a_null : Word
  a_boolean : Bool → Word
  a_number : ℤ → Word
  a_text : List ℕ → Word
  a_list : Word
  an_object : Word
  end_of_items : Word
  an_item : Word
  end_of_members : Word
  a_member : List ℕ → Word

-- the words of a value, of the values of a list and of the members of an object
abbrev mutual
  -- the words of a value, behind which others come
  pub json_words : Json → List Word → List Word
  json_words null ws = a_null ∷ ws
  json_words (boolean b) ws = a_boolean b ∷ ws
  json_words (number z) ws = a_number z ∷ ws
  json_words (text s) ws = a_text s ∷ ws
  json_words (list js) ws = items_words js (a_list ∷ ws)
  json_words (object ms) ws = members_words ms (an_object ∷ ws)

  -- the words of the values of a list, after which others come
  pub items_words : Items → List Word → List Word
  items_words no_items ws = end_of_items ∷ ws
  items_words (item j js) ws = json_words j (items_words js (an_item ∷ ws))

  -- the words of the members of an object, after which others come
  pub members_words : Members → List Word → List Word
  members_words no_members ws = end_of_members ∷ ws
  members_words (member k j ms) ws = json_words j (members_words ms (a_member k ∷ ws))

-- what was read of some words: values, and the values of lists and the members of objects, the last in front
pub data Read : Type 0 where
  nothing_read : Read
  json_read : Json → Read → Read
  items_read : Items → Read → Read
  members_read : Members → Read → Read

-- the items that were read are a list
abbrev pub read_list : Read → Read
read_list (items_read js r) = json_read (list js) r
read_list r = r

-- the members that were read are an object
abbrev pub read_object : Read → Read
read_object (members_read ms r) = json_read (object ms) r
read_object r = r

-- the value that was read is an item in front of those
abbrev pub read_item : Read → Read
read_item (items_read js (json_read j r)) = items_read (item j js) r
read_item r = r

-- the value that was read is a member of this key in front of those
abbrev pub read_member : List ℕ → Read → Read
read_member k (members_read ms (json_read j r)) = members_read (member k j ms) r
read_member k r = r

-- one word more is read
abbrev pub read_word : Read → Word → Read
read_word r a_null = json_read null r
read_word r (a_boolean b) = json_read (boolean b) r
read_word r (a_number z) = json_read (number z) r
read_word r (a_text s) = json_read (text s) r
read_word r a_list = read_list r
read_word r an_object = read_object r
read_word r end_of_items = items_read no_items r
read_word r an_item = read_item r
read_word r end_of_members = members_read no_members r
read_word r (a_member k) = read_member k r

-- the value that was read last
abbrev pub top_json : Read → Json
top_json (json_read j r) = j
top_json r = null

-- the words of a value are read as the value
abbrev mutual
  -- the words of a value are read as the value
  json_is_read : (j : Json) (ws : List Word) (r : Read)
      → fold read_word r (json_words j ws) ≡ fold read_word (json_read j r) ws
  json_is_read null ws r = refl
  json_is_read (boolean b) ws r = refl
  json_is_read (number z) ws r = refl
  json_is_read (text s) ws r = refl
  json_is_read (list js) ws r = items_are_read js (a_list ∷ ws) r
  json_is_read (object ms) ws r = members_are_read ms (an_object ∷ ws) r

  -- the words of the values of a list are read as these values
  items_are_read : (js : Items) (ws : List Word) (r : Read)
      → fold read_word r (items_words js ws) ≡ fold read_word (items_read js r) ws
  items_are_read no_items ws r = refl
  items_are_read (item j js) ws r =
      json_is_read j (items_words js (an_item ∷ ws)) r ∙ items_are_read js (an_item ∷ ws) (json_read j r)

  -- the words of the members of an object are read as these members
  members_are_read : (ms : Members) (ws : List Word) (r : Read)
      → fold read_word r (members_words ms ws) ≡ fold read_word (members_read ms r) ws
  members_are_read no_members ws r = refl
  members_are_read (member k j ms) ws r =
      json_is_read j (members_words ms (a_member k ∷ ws)) r ∙ members_are_read ms (a_member k ∷ ws) (json_read j r)

-- words have codes
pub word_coded : Coded Word
word_coded = Prim.hlevel codes

-- a value is kept as its words
pub json_coded : Coded Json
json_coded =
    code_by (List Word) (coded_list word_coded) (λ j. json_words j []) (λ ws. top_json (fold read_word nothing_read ws))
    (λ j. ap top_json (json_is_read j [] nothing_read))
