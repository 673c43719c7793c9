-- Values: their types, texts and truth, and the results of operations on them.
use Rattle.std.specs.Prelude.{ℕ, Bool, true, false, not, List, [], ◌∷◌, ◌++◌, Option, Some, None, ℤ, pos, negsuc, nat_eq, codes}
use Rattle.std.specs.Fmt.{signed_decimal}
use Rattle.js_heap.specs.declared.value.Addr.{Addr}
use Rattle.js_heap.specs.declared.value.Addr.TheVariants.{Base, Scratch}
use Rattle.js_heap.specs.declared.value.Value.{Value}
use Rattle.js_heap.specs.declared.value.Value.TheVariants as values
use Rattle.js_heap.specs.declared.built_in.ErrorClass.{ErrorClass}
use Rattle.js_heap.specs.declared.built_in.ErrorClass.TheVariants as classes
use Rattle.js_heap.specs.declared.cell.Cell.{Cell}
use Rattle.js_heap.specs.declared.cell.Cell.TheVariants as cells
use Rattle.js_heap.specs.declared.cell.Property.{Property}
use Rattle.js_heap.specs.Keys.{same_units, property_at}
use Rattle.js_heap.specs.World.{World, read_cell}
pub use Rattle.js_heap.specs.declared.computed.Computed.{Computed as Result}
pub use Rattle.js_heap.specs.declared.computed.Computed.TheVariants.{Value as a_value, Text as a_text, Error as an_error}

-- ---- results: a value, a text that is a new cell, or an error

-- a number as a result
abbrev pub a_number : ℤ → Result
a_number z = a_value (values.Number z)

-- a boolean as a result
abbrev pub a_bool : Bool → Result
a_bool b = a_value (values.Bool b)

-- ---- texts

-- the units of a text's cell
abbrev pub units_of_cell : Option Cell → List ℕ
units_of_cell (Some (cells.Text us)) = us
units_of_cell _ = []

-- the units of the text at an address
abbrev pub units_at : World → Addr → List ℕ
units_at w a = units_of_cell (read_cell w a)

-- the text of a boolean
abbrev pub bool_text : Bool → List ℕ
bool_text true = codes "true"
bool_text false = codes "false"

-- the text of a primitive value (7.1.17, ToString); none of an object
abbrev pub text_of : World → Value → Option (List ℕ)
text_of w values.Undefined = Some (codes "undefined")
text_of w values.Null = Some (codes "null")
text_of w (values.Bool b) = Some (bool_text b)
text_of w (values.Number z) = Some (signed_decimal z)
text_of w (values.Text a) = Some (units_at w a)
text_of w (values.Object a) = None

-- a key is a string or a number (this project's own; 7.1.19 takes any value)
abbrev pub key_of : World → Value → Option (List ℕ)
key_of w (values.Number z) = Some (signed_decimal z)
key_of w (values.Text a) = Some (units_at w a)
key_of w _ = None

-- ---- types (13.5.3)

-- the type of an object, of which functions have their own
abbrev pub object_type : Option Cell → List ℕ
object_type (Some (cells.Function code n l s t)) = codes "function"
object_type _ = codes "object"

-- the type of a value, as `typeof` names it
abbrev pub type_text : World → Value → List ℕ
type_text w values.Undefined = codes "undefined"
type_text w values.Null = codes "object"
type_text w (values.Bool b) = codes "boolean"
type_text w (values.Number z) = codes "number"
type_text w (values.Text a) = codes "string"
type_text w (values.Object a) = object_type (read_cell w a)

-- ---- truth (7.1.2)

-- an integer is 0
abbrev pub is_zero : ℤ → Bool
is_zero (pos n) = nat_eq n 0
is_zero (negsuc n) = false

-- a text has no units
abbrev pub is_empty : List ℕ → Bool
is_empty [] = true
is_empty (u ∷ us) = false

-- a value counts as true (ToBoolean)
abbrev pub is_truthy : World → Value → Bool
is_truthy w values.Undefined = false
is_truthy w values.Null = false
is_truthy w (values.Bool b) = b
is_truthy w (values.Number z) = not (is_zero z)
is_truthy w (values.Text a) = not (is_empty (units_at w a))
is_truthy w (values.Object a) = true

-- ---- sameness (7.2.15)

-- two integers are equal
abbrev pub same_integer : ℤ → ℤ → Bool
same_integer (pos m) (pos n) = nat_eq m n
same_integer (negsuc m) (negsuc n) = nat_eq m n
same_integer _ _ = false

-- two addresses are the same
abbrev pub same_address : Addr → Addr → Bool
same_address (Base m) (Base n) = nat_eq m n
same_address (Scratch m) (Scratch n) = nat_eq m n
same_address _ _ = false

-- two booleans are equal
abbrev pub same_bool : Bool → Bool → Bool
same_bool true b = b
same_bool false b = not b

-- `===`: of one type, strings by their units, objects by their address
abbrev pub is_same : World → Value → Value → Bool
is_same w values.Undefined values.Undefined = true
is_same w values.Null values.Null = true
is_same w (values.Bool a) (values.Bool b) = same_bool a b
is_same w (values.Number y) (values.Number z) = same_integer y z
is_same w (values.Text a) (values.Text b) = same_units (units_at w a) (units_at w b)
is_same w (values.Object a) (values.Object b) = same_address a b
is_same w _ _ = false

-- ---- what is shown (this project's own)

-- the name of an error class
abbrev pub class_text : ErrorClass → List ℕ
class_text classes.Error = codes "Error"
class_text classes.TypeError = codes "TypeError"
class_text classes.RangeError = codes "RangeError"
class_text classes.ReferenceError = codes "ReferenceError"

-- the name of a class with a message behind it, unless that is empty
abbrev pub with_message : List ℕ → List ℕ → List ℕ
with_message class [] = class
with_message class (u ∷ us) = class ++ codes ": " ++ u ∷ us

-- the units of a message that is a string; any other shows as none
abbrev pub message_units : World → Value → List ℕ
message_units w (values.Text a) = units_at w a
message_units w _ = []

-- an error as it is shown, by its class and its own `message`
abbrev pub error_text : World → ErrorClass → Option Property → List ℕ
error_text w class None = class_text class
error_text w class (Some p) = with_message (class_text class) (message_units w p.value)

-- an object as it is shown
abbrev pub cell_text : World → Option Cell → List ℕ
cell_text w (Some (cells.Array vs)) = codes "[object Array]"
cell_text w (Some (cells.Function code n l s t)) = codes "function " ++ n
cell_text w (Some (cells.Error class ps)) = error_text w class (property_at ps (codes "message"))
cell_text w _ = codes "[object Object]"

-- a value as `console.log` shows it
abbrev pub shown : World → Value → List ℕ
shown w values.Undefined = codes "undefined"
shown w values.Null = codes "null"
shown w (values.Bool b) = bool_text b
shown w (values.Number z) = signed_decimal z
shown w (values.Text a) = units_at w a
shown w (values.Object a) = cell_text w (read_cell w a)

-- texts with another between each two
abbrev pub between : List ℕ → List (List ℕ) → List ℕ
between separator [] = []
between separator (t ∷ []) = t
between separator (t ∷ u ∷ ts) = t ++ separator ++ between separator (u ∷ ts)
