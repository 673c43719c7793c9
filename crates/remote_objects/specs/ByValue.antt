-- Values by value (Chrome DevTools Protocol 1.3, `returnByValue`): as JSON in place of a handle, unless they are too
-- deep or have too many parts.
use Rattle.std.specs.Prelude.{◌≡◌, ℕ, ◌+◌, zero, suc, max, ◌<◌, ◌≤◌, ◌⊎◌, Bool, true, false, ◌&&◌, List, [], ◌∷◌, ◌++◌, nat_le, if◌then◌else◌, Option, Some, None, Result, Ok, Err, codes}
use Rattle.js_heap.specs.declared.cell.Cell.{Cell}
use Rattle.js_heap.specs.declared.cell.Cell.TheVariants as cells
use Rattle.js_heap.specs.declared.cell.Property.{Property}
use Rattle.js_heap.specs.declared.value.Addr.{Addr}
use Rattle.js_heap.specs.declared.value.Value.{Value}
use Rattle.js_heap.specs.declared.value.Value.TheVariants as values
use Rattle.js_heap.specs.Values.{units_at}
use Rattle.js_heap.specs.World.{World, read_cell}
use Rattle.cdp_json.specs.Json.{Json, null, boolean, number, text}
use Rattle.cdp_json.specs.Parts.{Pair, list_of, object_of}
use Rattle.remote_objects.specs.Sights.{Sight}
use Rattle.remote_objects.specs.Values.{cell_pairs, value_pairs}
use Rattle.remote_objects.specs.declared.by_value.ByValueFault.{ByValueFault}
use Rattle.remote_objects.specs.declared.by_value.ByValueFault.TheVariants as faults
use Rattle.remote_objects.specs.declared.by_value.TheConstants.{MOST_DEEP, MOST_MET}

-- ---- what is given

-- what is given for a value or for parts of one, how deep these are, and how many values were met; one that is met
-- again counts again
pub record Given (A : Type 0) : Type 0 where
  pub given : A
  pub depth : ℕ
  pub met : ℕ

-- nothing, for no value
abbrev pub no_parts : {B : Type 0} → Given (List B)
no_parts = record { given = []; depth = 0; met = 0 }

-- nothing, for a value that is met and left out
abbrev pub left_out : {B : Type 0} → Given (List B)
left_out = record { given = []; depth = 0; met = 1 }

-- parts behind others: as deep as the deepest of them
abbrev pub behind : {B : Type 0} → Given (List B) → Given (List B) → Given (List B)
behind g h = record { given = g.given ++ h.given; depth = max g.depth h.depth; met = g.met + h.met }

-- what is given of each of a list, in turn
abbrev pub all_given : {A B : Type 0} → (A → Given (List B)) → List A → Given (List B)
all_given f [] = no_parts
all_given f (x ∷ xs) = behind (f x) (all_given f xs)

-- what is given, in another form: as deep, and of as many values
abbrev pub mapped : {A B : Type 0} → (A → B) → Given A → Given B
mapped f g = record { given = f g.given; depth = g.depth; met = g.met }

-- an object of these parts: one deeper than the deepest of them, so 1 where it has none, and one value more
abbrev pub around : Given Json → Given Json
around g = record { given = g.given; depth = suc g.depth; met = suc g.met }

-- ---- functions

-- whether a cell is a function
abbrev pub is_function_cell : Option Cell → Bool
is_function_cell (Some (cells.Function code name len scope receiver)) = true
is_function_cell cell = false

-- whether a value can be called, which functions can (ECMA-262, 7.2.3)
abbrev pub is_callable : World → Value → Bool
is_callable w (values.Object a) = is_function_cell (read_cell w a)
is_callable w v = false

-- ---- parts of an object, where a value is given so

-- an element of a list: a function is null there
abbrev pub element_of : World → Value → Json → List Json
element_of w v j = (if is_callable w v then null else j) ∷ []

-- what is given for an element
abbrev pub element_given : World → (Value → Given Json) → Value → Given (List Json)
element_given w way v = mapped (element_of w v) (way v)

-- undefined and functions are left out of an object
abbrev pub is_left_out : World → Value → Bool
is_left_out w values.Undefined = true
is_left_out w v = is_callable w v

-- a member of this key
abbrev pub member_of : List ℕ → Json → List Pair
member_of key j = (key, j) ∷ []

-- the member of a property with what is given for its value, if it is not left out
abbrev pub value_member : World → (Value → Given Json) → Property → Given (List Pair)
value_member w way p = if is_left_out w p.value then left_out else mapped (member_of p.key) (way p.value)

-- the member of a property of an object, if it is enumerable
abbrev pub member_given : World → (Value → Given Json) → Property → Given (List Pair)
member_given w way p = if p.enumerable then value_member w way p else no_parts

-- the elements of an array, and the members of another object; a function has none
abbrev pub parts_given : World → (Value → Given Json) → Option Cell → Given Json
parts_given w way (Some (cells.Object ps)) = mapped object_of (all_given (member_given w way) ps)
parts_given w way (Some (cells.Error class ps)) = mapped object_of (all_given (member_given w way) ps)
parts_given w way (Some (cells.Array vs)) = mapped list_of (all_given (element_given w way) vs)
parts_given w way cell = mapped object_of no_parts

-- ---- values

-- undefined is null
abbrev pub plain_json : World → Value → Json
plain_json w (values.Bool b) = boolean b
plain_json w (values.Number z) = number z
plain_json w (values.Text a) = text (units_at w a)
plain_json w v = null

-- a primitive value has the depth 0
abbrev pub plain_given : World → Value → Given Json
plain_given w v = record { given = plain_json w v; depth = 0; met = 1 }

-- a value, where objects are given so
abbrev pub value_by : World → (Addr → Given Json) → Value → Given Json
value_by w objects (values.Object a) = objects a
value_by w objects v = plain_given w v

-- an object that is looked at so many levels deep, since a world may have cycles; one at which nobody looks is deeper
-- than 0
unfoldable pub object_given : World → ℕ → Addr → Given Json
object_given w zero a = around (mapped object_of no_parts)
object_given w (suc n) a = around (parts_given w (value_by w (object_given w n)) (read_cell w a))

-- a value that is looked at so many levels deep
abbrev pub value_given : World → ℕ → Value → Given Json
value_given w n v = value_by w (object_given w n) v

-- ---- limits

-- how deep a value may be
abbrev pub most_deep : ℕ
most_deep = MOST_DEEP

-- how many values may be met
abbrev pub most_met : ℕ
most_met = MOST_MET

-- what is given, where it is within both limits
abbrev pub if_within : ℕ → ℕ → Given Json → Option Json
if_within deep met g = if nat_le g.depth deep && nat_le g.met met then Some g.given else None

-- a value as JSON; none where it is too deep or too many values are met
abbrev pub by_value : World → Value → Option Json
by_value w v = if_within most_deep most_met (value_given w most_deep v)

-- ---- remote objects

-- these members with what is given for the value, where something is
abbrev pub with_value : List Pair → Option Json → Option Json
with_value pairs None = None
with_value pairs (Some j) = Some (object_of (pairs ++ (codes "value", j) ∷ []))

-- an object with what is given for it; that of a function has no members
abbrev pub remote_object_by_value : Sight → Addr → Option Json
remote_object_by_value s a = with_value (cell_pairs s (read_cell s.world a)) (by_value s.world (values.Object a))

-- a value as a remote object without a handle
abbrev pub remote_by_value : Sight → Value → Option Json
remote_by_value s (values.Object a) = remote_object_by_value s a
remote_by_value s v = Some (object_of (value_pairs s v))

-- ---- what is answered

-- it is deeper than may be, or more values are met
abbrev pub Exceeds : {B : Type 0} → ℕ → ℕ → Given B → Type 0
Exceeds deep met g = (deep < g.depth) ⊎ (met < g.met)

-- a fault that isn't want of memory says that it is too long
abbrev pub Faults : {B : Type 0} → ByValueFault → ℕ → ℕ → Given B → Type 0
Faults faults.TooLong deep met g = Exceeds deep met g
Faults faults.Memory deep met g = Unit {0}

-- what is given is within both limits, and so many values may be met still
pub record Fits {B : Type 0} (given : B) (deep met left : ℕ) (g : Given B) : Type 0 where
  pub is : given ≡ g.given
  pub within : g.depth ≤ deep
  pub counted : left + g.met ≡ met

-- what is given, where so many values may be met and so many may be still, or why nothing is
abbrev pub Answers : {A B : Type 0} → (A → B) → Result A ByValueFault → ℕ → ℕ → ℕ → Given B → Type 0
Answers view (Ok a) deep met left g = Fits (view a) deep met left g
Answers view (Err fault) deep met left g = Faults fault deep met g

-- what is put behind others
abbrev pub Puts : {A B : Type 0} → List B → List B → Result A ByValueFault → ℕ → ℕ → ℕ → Given (List B) → Type 0
Puts before now result deep met left g = Answers (λ a. now) result deep met left (mapped (λ parts. before ++ parts) g)

-- one value is met: so many may be still, or none might be
abbrev pub Meets : {A : Type 0} → Result A ByValueFault → ℕ → ℕ → Type 0
Meets (Ok a) met left = suc left ≡ met
Meets (Err fault) met left = (fault ≡ faults.TooLong) × (met ≡ 0)

-- just what is given; where nothing is, it is too long, or memory was wanted
abbrev pub Gives : {A B : Type 0} → (A → B) → Result A ByValueFault → Option B → Type 0
Gives view (Ok a) o = o ≡ Some (view a)
Gives view (Err faults.TooLong) o = o ≡ None
Gives view (Err faults.Memory) o = Unit {0}
