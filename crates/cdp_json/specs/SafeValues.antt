-- JSON values whose numbers are safe integers. The members of an object are in ascending order of the UTF-8 bytes of
-- their names; of two members of one name the later one counts.
use Rattle.std.specs.Prelude.{ℤ, ◌^◌, nat_abs, nat_lt, if◌then◌else◌, Option, Some, None, option_map, option_and_then}
use Rattle.cdp_text.specs.Units.{utf16_of}
use Rattle.serde_json.specs.Data as values
use Rattle.serde_json.specs.Data.{Num, Data}
use Rattle.serde_json.specs.Find.{as_integer}
use Rattle.cdp_json.specs.Json.{Json, null, boolean, number, text, list, object, Items, no_items, item, Members, no_members, member}

-- an integer from -(2^53-1) to 2^53-1
abbrev pub if_safe_integer : ℤ → Option ℤ
if_safe_integer z = if nat_lt (nat_abs z) (2 ^ 53) then Some z else None

-- a number without fraction or exponent that is safe
abbrev pub safe_integer_of : Num → Option ℤ
safe_integer_of n = option_and_then if_safe_integer (as_integer n)

-- what is made of two parts, where both are there
abbrev pub both : {A B C : Type 0} → (A → B → C) → Option A → Option B → Option C
both f None b = None
both f (Some a) None = None
both f (Some a) (Some b) = Some (f a b)

-- a value, the values of a list and the members of an object, where all their numbers are safe integers
abbrev mutual
  -- the value, where each of its numbers is a safe integer
  pub safe_value_of : Data → Option Json
  safe_value_of values.null = Some null
  safe_value_of (values.boolean b) = Some (boolean b)
  safe_value_of (values.number n) = option_map number (safe_integer_of n)
  safe_value_of (values.string s) = Some (text (utf16_of s))
  safe_value_of (values.array ds) = option_map list (safe_items_of ds)
  safe_value_of (values.object ms) = option_map object (safe_members_of ms)

  -- the values of a list, in order
  pub safe_items_of : values.Items → Option Items
  safe_items_of values.no_items = Some no_items
  safe_items_of (values.item d ds) = both item (safe_value_of d) (safe_items_of ds)

  -- the members of an object, in order
  pub safe_members_of : values.Members → Option Members
  safe_members_of values.no_members = Some no_members
  safe_members_of (values.member k d ms) = both (member (utf16_of k)) (safe_value_of d) (safe_members_of ms)
