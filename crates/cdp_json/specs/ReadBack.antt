-- What is read where a JSON value was written.
use Rattle.std.specs.Prelude.{◌≡◌, ℕ, ℤ, pos, neg_ℤ, ◌≤ℤ◌, ◌<ℤ◌, ◌^◌, suc, max, ◌<◌, ◌≤◌, List, [], ◌∷◌, false, Some, ⊤}
use Rattle.std.specs.List.{AllByRecursion}
use Rattle.std.specs.Char.Utf16.{has_unpaired_surrogate}
use Rattle.serde_json.specs.Data as values
use Rattle.serde_json.specs.Data.{Data, put}
use Rattle.serde_json.specs.Find.{of_integer}
use Rattle.serde_json.specs.Read.{read}
use Rattle.cdp_text.specs.Units.{utf8_of}
use Rattle.cdp_json.specs.Json.{Json, null, boolean, number, text, list, object, Items, no_items, item, Members, no_members, member, members_of}
use Rattle.cdp_json.specs.KeyOrder.{in_order}
use Rattle.cdp_json.specs.Compact.{compact_text}

-- ---- the value that serde_json reads

-- what is read of a value, of the values of a list and of the members of an object
abbrev mutual
  -- texts and keys in UTF-8 (a surrogate without a partner is U+FFFD), numbers as unsigned or negative integers, and of
  -- the members of one key the last
  pub data_of : Json → Data
  data_of null = values.null
  data_of (boolean b) = values.boolean b
  data_of (number z) = values.number (of_integer z)
  data_of (text s) = values.string (utf8_of s)
  data_of (list js) = values.array (items_data js)
  data_of (object ms) = values.object (members_data ms values.no_members)

  -- the values of a list, in order
  pub items_data : Items → values.Items
  items_data no_items = values.no_items
  items_data (item j js) = values.item (data_of j) (items_data js)

  -- the members, each put among those that were found before it
  pub members_data : Members → values.Members → values.Members
  members_data no_members found = found
  members_data (member k j ms) found = members_data ms (put (utf8_of k) (data_of j) found)

-- ---- the order in which members are written

-- a value, the values of a list and the members of an object, each object in the order of its keys
abbrev mutual
  -- the value with the members of each object in the order in which they are written
  pub ordered : Json → Json
  ordered null = null
  ordered (boolean b) = boolean b
  ordered (number z) = number z
  ordered (text s) = text s
  ordered (list js) = list (ordered_items js)
  ordered (object ms) = object (members_of (in_order (λ m. m.0) (ordered_members ms)))

  -- each value of a list, with its objects in that order
  pub ordered_items : Items → Items
  ordered_items no_items = no_items
  ordered_items (item j js) = item (ordered j) (ordered_items js)

  -- each key with its value, whose objects are in that order; the keys as they were given
  pub ordered_members : Members → List (List ℕ × Json)
  ordered_members no_members = []
  ordered_members (member k j ms) = (k, ordered j) ∷ ordered_members ms

-- ---- what can be read back

-- the depth of a value, of the values of a list and of the members of an object
abbrev mutual
  -- how many lists and objects are inside one another
  pub depth : Json → ℕ
  depth null = 0
  depth (boolean b) = 0
  depth (number z) = 0
  depth (text s) = 0
  depth (list js) = suc (items_depth js)
  depth (object ms) = suc (members_depth ms)

  -- inside the values of a list
  pub items_depth : Items → ℕ
  items_depth no_items = 0
  items_depth (item j js) = max (depth j) (items_depth js)

  -- inside the values of an object
  pub members_depth : Members → ℕ
  members_depth no_members = 0
  members_depth (member k j ms) = max (depth j) (members_depth ms)

-- a value of i64 or of u64
abbrev pub FitsSixtyFourBits : ℤ → Type 0
FitsSixtyFourBits z = (neg_ℤ (pos (2 ^ 63)) ≤ℤ z) × (z <ℤ pos (2 ^ 64))

-- the numbers in a value, in the values of a list and in the members of an object fit in 64 bits
abbrev mutual
  -- each number is a value of i64 or of u64
  pub NumbersFit : Json → Type 0
  NumbersFit null = ⊤
  NumbersFit (boolean b) = ⊤
  NumbersFit (number z) = FitsSixtyFourBits z
  NumbersFit (text s) = ⊤
  NumbersFit (list js) = ItemsFit js
  NumbersFit (object ms) = MembersFit ms

  -- the numbers in the values of a list are such
  pub ItemsFit : Items → Type 0
  ItemsFit no_items = ⊤
  ItemsFit (item j js) = NumbersFit j × ItemsFit js

  -- the numbers in the values of an object are such
  pub MembersFit : Members → Type 0
  MembersFit no_members = ⊤
  MembersFit (member k j ms) = NumbersFit j × MembersFit ms

-- what serde_json can read back: at most 127 lists and objects are inside one another, and each number is a value of
-- i64 or of u64
pub record IsReadable (j : Json) : Type 0 where
  pub is_shallow : depth j ≤ 127
  pub numbers_fit : NumbersFit j

-- of the keys of these members each that has the text of k is k
abbrev pub StandsApart : List ℕ → Members → Type 0
StandsApart k no_members = ⊤
StandsApart k (member l j ms) = (utf8_of k ≡ utf8_of l → k ≡ l) × StandsApart k ms

-- the keys of each object stand apart, in a value, in the values of a list and in the members of an object
abbrev mutual
  -- in each object, keys of one text are the same units
  pub KeysStandApart : Json → Type 0
  KeysStandApart null = ⊤
  KeysStandApart (boolean b) = ⊤
  KeysStandApart (number z) = ⊤
  KeysStandApart (text s) = ⊤
  KeysStandApart (list js) = ItemsStandApart js
  KeysStandApart (object ms) = MembersStandApart ms

  -- the keys stand apart in each value of a list
  pub ItemsStandApart : Items → Type 0
  ItemsStandApart no_items = ⊤
  ItemsStandApart (item j js) = KeysStandApart j × ItemsStandApart js

  -- among these members, and in each of their values
  pub MembersStandApart : Members → Type 0
  MembersStandApart no_members = ⊤
  MembersStandApart (member k j ms) = StandsApart k ms × KeysStandApart j × MembersStandApart ms

-- units of 16 bits, and each surrogate has its partner
pub record IsWhole (units : List ℕ) : Type 0 where
  pub small : AllByRecursion (λ u. u < 2 ^ 16) units
  pub paired : has_unpaired_surrogate units ≡ false

-- ---- the laws

-- what is written is read back, with the members in the order in which they are written
abbrev pub WrittenIsReadBack : Type 0
WrittenIsReadBack = (j : Json) → IsReadable j → read (compact_text j) ≡ Some (data_of (ordered j))

-- it is read back as it was given. Keys of other units may have one text, as two surrogates without a partner have: of
-- such the last that is written stays, and not the last that was given.
abbrev pub GivenIsReadBack : Type 0
GivenIsReadBack = (j : Json) → IsReadable j → KeysStandApart j → read (compact_text j) ≡ Some (data_of j)

-- keys whose surrogates all have partners stand apart
abbrev pub WholeKeysDiffer : Type 0
WholeKeysDiffer = (k l : List ℕ) → IsWhole k → IsWhole l → utf8_of k ≡ utf8_of l → k ≡ l
