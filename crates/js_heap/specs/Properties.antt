-- Properties of values: reading, and the changes by writing and deleting.
use Rattle.std.specs.Prelude.{ℕ, List, [], ◌∷◌, ◌++◌, length, Option, Some, None, pos, slice_get, nat_le, codes, if◌then◌else◌}
use Rattle.js_heap.specs.declared.value.Addr.{Addr}
use Rattle.js_heap.specs.declared.value.Value.{Value}
use Rattle.js_heap.specs.declared.value.Value.TheVariants as values
use Rattle.js_heap.specs.declared.built_in.BuiltIn.TheVariants as built_ins
use Rattle.js_heap.specs.declared.built_in.ErrorClass.{ErrorClass}
use Rattle.js_heap.specs.declared.built_in.ErrorClass.TheVariants as classes
use Rattle.js_heap.specs.declared.cell.Cell.{Cell}
use Rattle.js_heap.specs.declared.cell.Cell.TheVariants as cells
use Rattle.js_heap.specs.declared.cell.Property.{Property}
use Rattle.js_heap.specs.declared.change.Change.TheVariants as changes
use Rattle.js_heap.specs.Keys.{same_units, index_of_key, property_at}
use Rattle.js_heap.specs.World.{World, read_cell}
use Rattle.js_heap.specs.BuiltIns.{function_value}
use Rattle.js_heap.specs.Values.{Result, a_value, a_text, an_error, a_number, class_text, units_at}
pub use Rattle.js_heap.specs.declared.computed.Written.{Written}
pub use Rattle.js_heap.specs.declared.computed.Written.TheVariants.{Change as a_change, Refused as refused}

-- ---- errors

-- the error of a key that is neither a string nor a number
abbrev pub bad_key : Result
bad_key = an_error classes.TypeError (codes "Property key must be a string or a number")

-- the error of a property that is read of undefined or null
abbrev pub cannot_read : List ℕ → List ℕ → Result
cannot_read what key =
    an_error classes.TypeError (codes "Cannot read properties of " ++ what ++ codes " (reading '" ++ key ++ codes "')")

-- the message where a property of undefined or null is written or deleted
abbrev pub cannot_set : List ℕ → List ℕ → List ℕ
cannot_set what key = codes "Cannot set properties of " ++ what ++ codes " (setting '" ++ key ++ codes "')"

-- the message where a property can't be changed
abbrev pub cannot_change : List ℕ → List ℕ
cannot_change key = codes "Cannot change property '" ++ key ++ codes "'"

-- ---- reading (10.1.8; without prototypes)

-- a value where there is one, else another result
abbrev pub value_or : Option Value → Result → Result
value_or (Some v) other = a_value v
value_or None other = other

-- the method of arrays that a key names (23.1.3); undefined where it names none
abbrev pub array_method : List ℕ → Result
array_method key =
    if same_units key (codes "push") then a_value (function_value built_ins.ArrayPush)
    else (if same_units key (codes "pop") then a_value (function_value built_ins.ArrayPop)
    else (if same_units key (codes "indexOf") then a_value (function_value built_ins.ArrayIndexOf)
    else (if same_units key (codes "join") then a_value (function_value built_ins.ArrayJoin)
    else (if same_units key (codes "slice") then a_value (function_value built_ins.ArraySlice)
    else a_value values.Undefined))))

-- the method of strings that a key names (22.1.3); undefined where it names none
abbrev pub string_method : List ℕ → Result
string_method key =
    if same_units key (codes "indexOf") then a_value (function_value built_ins.StringIndexOf)
    else (if same_units key (codes "slice") then a_value (function_value built_ins.StringSlice)
    else (if same_units key (codes "charCodeAt") then a_value (function_value built_ins.StringCharCodeAt)
    else a_value values.Undefined))

-- what an array has for a key: an element, its length (10.4.2), or a method
abbrev pub element_or_method : List Value → List ℕ → Option ℕ → Result
element_or_method vs key (Some i) = value_or (slice_get vs i) (a_value values.Undefined)
element_or_method vs key None = if same_units key (codes "length") then a_number (pos (length vs)) else array_method key

-- a unit of a string as a text of its own, where there is one
abbrev pub unit_or_undefined : Option ℕ → Result
unit_or_undefined (Some u) = a_text (u ∷ [])
unit_or_undefined None = a_value values.Undefined

-- what a string has for a key: a unit, its length (10.4.3), or a method
abbrev pub unit_or_method : List ℕ → List ℕ → Option ℕ → Result
unit_or_method us key (Some i) = unit_or_undefined (slice_get us i)
unit_or_method us key None = if same_units key (codes "length") then a_number (pos (length us)) else string_method key

-- a function: its name and its length (20.2.4)
abbrev pub function_property : List ℕ → ℕ → List ℕ → Result
function_property n l key =
    if same_units key (codes "name") then a_text n
    else (if same_units key (codes "length") then a_number (pos l)
    else a_value values.Undefined)

-- the value of an own property where there is one, else another result
abbrev pub own_or : Option Property → Result → Result
own_or (Some p) other = a_value p.value
own_or None other = other

-- an error without an own property: its class as its name, and an empty message (20.5.3)
abbrev pub error_property : ErrorClass → List ℕ → Result
error_property class key =
    if same_units key (codes "name") then a_text (class_text class)
    else (if same_units key (codes "message") then a_text [] else a_value values.Undefined)

-- what an object, an error, an array or a function has for a key
abbrev pub cell_property : Option Cell → List ℕ → Result
cell_property (Some (cells.Object ps)) key = own_or (property_at ps key) (a_value values.Undefined)
cell_property (Some (cells.Error class ps)) key = own_or (property_at ps key) (error_property class key)
cell_property (Some (cells.Array vs)) key = element_or_method vs key (index_of_key key)
cell_property (Some (cells.Function code n l s t)) key = function_property n l key
cell_property _ key = a_value values.Undefined

-- what reading a property gives (13.3.2)
abbrev pub property_of : World → Value → List ℕ → Result
property_of w values.Undefined key = cannot_read (codes "undefined") key
property_of w values.Null key = cannot_read (codes "null") key
property_of w (values.Bool b) key = a_value values.Undefined
property_of w (values.Number z) key = a_value values.Undefined
property_of w (values.Text a) key = unit_or_method (units_at w a) key (index_of_key key)
property_of w (values.Object a) key = cell_property (read_cell w a) key

-- ---- writing and deleting: the change of one cell, or an error

-- the refusal where a property can't be changed
abbrev pub not_changeable : List ℕ → Written
not_changeable key = refused classes.TypeError (cannot_change key)

-- the refusal of an element behind the length, and of a length that isn't one up to the present one
abbrev pub bad_length : Written
bad_length = refused classes.RangeError (codes "Invalid array length")

-- an element up to the length
abbrev pub element_change : Addr → List Value → ℕ → Value → Written
element_change a vs i v = if nat_le i (length vs) then a_change a (changes.Element i v) else bad_length

-- a length up to the present one (10.4.2.4)
abbrev pub length_change : Addr → List Value → Value → Written
length_change a vs (values.Number (pos l)) = if nat_le l (length vs) then a_change a (changes.Length l) else bad_length
length_change a vs _ = bad_length

-- what writing a property of an array changes: an element or the length
abbrev pub array_change : Addr → List Value → List ℕ → Option ℕ → Value → Written
array_change a vs key (Some i) v = element_change a vs i v
array_change a vs key None v = if same_units key (codes "length") then length_change a vs v else not_changeable key

-- what writing a property of an object, an error or an array changes
abbrev pub cell_change : Addr → Option Cell → List ℕ → Value → Written
cell_change a (Some (cells.Object ps)) key v = a_change a (changes.Put key v)
cell_change a (Some (cells.Error class ps)) key v = a_change a (changes.Put key v)
cell_change a (Some (cells.Array vs)) key v = array_change a vs key (index_of_key key) v
cell_change a _ key v = not_changeable key

-- what writing a property changes (10.1.9)
abbrev pub property_written : World → Value → List ℕ → Value → Written
property_written w values.Undefined key v = refused classes.TypeError (cannot_set (codes "undefined") key)
property_written w values.Null key v = refused classes.TypeError (cannot_set (codes "null") key)
property_written w (values.Object a) key v = cell_change a (read_cell w a) key v
property_written w _ key v = not_changeable key

-- what deleting a property of an object or an error changes
abbrev pub cell_removal : Addr → Option Cell → List ℕ → Written
cell_removal a (Some (cells.Object ps)) key = a_change a (changes.Remove key)
cell_removal a (Some (cells.Error class ps)) key = a_change a (changes.Remove key)
cell_removal a _ key = not_changeable key

-- what deleting a property changes (13.5.1.2)
abbrev pub property_deleted : World → Value → List ℕ → Written
property_deleted w values.Undefined key = refused classes.TypeError (cannot_set (codes "undefined") key)
property_deleted w values.Null key = refused classes.TypeError (cannot_set (codes "null") key)
property_deleted w (values.Object a) key = cell_removal a (read_cell w a) key
property_deleted w _ key = not_changeable key
