-- Texts, keys, and the own properties of an object in their order.
use Rattle.std.specs.Prelude.{ℕ, ◌^◌, ◌-◌, Bool, true, false, ◌&&◌, ◌||◌, not, List, [], ◌∷◌, Option, Some, None, nat_eq, nat_lt, if◌then◌else◌}
use Rattle.std.specs.Str.{all_ascii_digits}
use Rattle.std.specs.Str.Parse.{digits_value}
use Rattle.js_heap.specs.declared.value.Value.{Value}
use Rattle.js_heap.specs.declared.cell.Property.{Property}

-- two texts have the same units
abbrev pub same_units : List ℕ → List ℕ → Bool
same_units [] [] = true
same_units [] (v ∷ vs) = false
same_units (u ∷ us) [] = false
same_units (u ∷ us) (v ∷ vs) = nat_eq u v && same_units us vs

-- a decimal text without a zero in front of another digit
abbrev pub is_shortest : List ℕ → Bool
is_shortest [] = false
is_shortest (d ∷ []) = true
is_shortest (d ∷ ds) = not (nat_eq d 48)

-- the number of a decimal text, where it is an array index
abbrev pub index_within : List ℕ → Option ℕ
index_within key = if nat_lt (digits_value 10 key) (2 ^ 32 - 1) then Some (digits_value 10 key) else None

-- the array index that a key is, from 0 to 2^32 - 2 (ECMA-262, 6.1.7)
abbrev pub index_of_key : List ℕ → Option ℕ
index_of_key key = if is_shortest key && all_ascii_digits key then index_within key else None

-- the property of a key
abbrev pub property_at : List Property → List ℕ → Option Property
property_at [] key = None
property_at (p ∷ ps) key = if same_units p.key key then Some p else property_at ps key

-- one of the properties has this key
abbrev pub has_key : List Property → List ℕ → Bool
has_key [] key = false
has_key (p ∷ ps) key = same_units p.key key || has_key ps key

-- another value for the property of a key, whose flags stay
abbrev pub with_value : List Property → List ℕ → Value → List Property
with_value [] key v = []
with_value (p ∷ ps) key v = if same_units p.key key then record p { value = v } ∷ ps else p ∷ with_value ps key v

-- a key that is an index stands before one that is a larger index, and before one that is none (10.1.11)
abbrev pub stands_before : Option ℕ → Option ℕ → Bool
stands_before (Some i) (Some j) = nat_lt i j
stands_before (Some i) None = true
stands_before None other = false

-- a new property at its place in the order of own keys (10.1.11)
abbrev pub placed : List Property → Property → List Property
placed [] new = new ∷ []
placed (p ∷ ps) new =
    if stands_before (index_of_key new.key) (index_of_key p.key) then new ∷ p ∷ ps else p ∷ placed ps new

-- a property as assignment makes it (10.1.9.2)
abbrev pub assigned : List ℕ → Value → Property
assigned key v = record { key = key; value = v; writable = true; enumerable = true; configurable = true }

-- the property of a key has this value
abbrev pub put_property : List Property → List ℕ → Value → List Property
put_property ps key v = if has_key ps key then with_value ps key v else placed ps (assigned key v)

-- no property of this key
abbrev pub without_key : List Property → List ℕ → List Property
without_key [] key = []
without_key (p ∷ ps) key = if same_units p.key key then ps else p ∷ without_key ps key
