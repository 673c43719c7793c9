-- The built-in functions.
use Rattle.std.specs.Prelude.{ℕ, suc, ◌+◌, ◌-◌, Bool, true, false, ◌&&◌, List, [], ◌∷◌, map, length, take, drop, min, Option, Some, None, ℤ, pos, negsuc, slice_get, nat_eq, codes, decimal, if◌then◌else◌}
use Rattle.js_heap.specs.declared.value.Addr.{Addr}
use Rattle.js_heap.specs.declared.value.Value.{Value}
use Rattle.js_heap.specs.declared.value.Value.TheVariants as values
use Rattle.js_heap.specs.declared.built_in.BuiltIn.{BuiltIn}
use Rattle.js_heap.specs.declared.built_in.BuiltIn.TheVariants as built_ins
use Rattle.js_heap.specs.declared.built_in.ErrorClass.{ErrorClass}
use Rattle.js_heap.specs.declared.built_in.ErrorClass.TheVariants as classes
use Rattle.js_heap.specs.declared.cell.Cell.{Cell}
use Rattle.js_heap.specs.declared.cell.Cell.TheVariants as cells
use Rattle.js_heap.specs.declared.cell.Property.{Property}
use Rattle.js_heap.specs.declared.change.Change.TheVariants as changes
use Rattle.js_heap.specs.World.{World, read_cell}
use Rattle.js_heap.specs.BuiltIns.{message_property}
use Rattle.js_heap.specs.Values.{text_of, units_at, is_same, shown, between}
use Rattle.js_semantics.specs.State.{Action, make, write, print, take_line, give, make_text, fail}
use Rattle.js_heap.specs.Operators.{not_a_text, not_safe}
use Rattle.js_semantics.specs.References.{with_result}
pub use Rattle.js_heap.specs.Arguments.{argument}

-- the error of an argument, or of a `this`, that a built-in function doesn't take (this project's own)
abbrev pub wrong_type : Action
wrong_type = fail classes.TypeError (codes "Argument has a wrong type")

-- ---- console.log, readline

-- `console.log`: prints the values' texts with a space between each two
abbrev pub log : World → List Value → Action
log w vs = print vs (between (codes " ") (map (shown w) vs))

-- what `readline` answers: the line as a new text, null behind the last line
abbrev pub line_value : Option (List ℕ) → Action
line_value None = give values.Null
line_value (Some line) = make_text line give

-- ---- errors and strings

-- a new error of a class with these own properties
abbrev pub new_error : ErrorClass → List Property → Action
new_error class ps = make (cells.Error class ps) (λ a. give (values.Object a))

-- an error with the message of a string, or without one (20.5.1.1)
abbrev pub error_of : ErrorClass → Value → Action
error_of class (values.Text a) = new_error class (message_property (values.Text a) ∷ [])
error_of class values.Undefined = new_error class []
error_of class _ = wrong_type

-- a text as a new string; an error where there is none, as of an object
abbrev pub text_or_fail : Option (List ℕ) → Action
text_or_fail None = with_result not_a_text give
text_or_fail (Some us) = make_text us give

-- the text of a primitive; of a string the string itself (22.1.1.1)
abbrev pub string_of : World → Value → Action
string_of w (values.Text a) = give (values.Text a)
string_of w v = text_or_fail (text_of w v)

-- ---- Object.keys, Array.isArray

-- the indices of a list as texts
abbrev pub indices_from : ℕ → List Value → List (List ℕ)
indices_from i [] = []
indices_from i (v ∷ vs) = decimal i ∷ indices_from (i + 1) vs

-- the keys of the enumerable properties, in their order
abbrev pub enumerable_keys : List Property → List (List ℕ)
enumerable_keys [] = []
enumerable_keys (p ∷ ps) = if p.enumerable then p.key ∷ enumerable_keys ps else enumerable_keys ps

-- the enumerable own keys in order; a text has none here (20.1.2.18)
abbrev pub keys_of_cell : Option Cell → List (List ℕ)
keys_of_cell (Some (cells.Object ps)) = enumerable_keys ps
keys_of_cell (Some (cells.Error class ps)) = enumerable_keys ps
keys_of_cell (Some (cells.Array vs)) = indices_from 0 vs
keys_of_cell _ = []

-- the texts as new strings, one after another, then what is made of them
abbrev pub make_texts : List (List ℕ) → (List Value → Action) → Action
make_texts [] k = k []
make_texts (t ∷ ts) k = make_text t (λ v. make_texts ts (λ vs. k (v ∷ vs)))

-- a new array of these elements
abbrev pub new_array : List Value → Action
new_array vs = make (cells.Array vs) (λ a. give (values.Object a))

-- `Object.keys`: a new array of new strings; its argument is an object
abbrev pub keys_of : World → Value → Action
keys_of w (values.Object a) = make_texts (keys_of_cell (read_cell w a)) new_array
keys_of w _ = wrong_type

-- a cell is that of an array
abbrev pub is_array_cell : Option Cell → Bool
is_array_cell (Some (cells.Array vs)) = true
is_array_cell _ = false

-- `Array.isArray` (23.1.2.2)
abbrev pub is_array : World → Value → Bool
is_array w (values.Object a) = is_array_cell (read_cell w a)
is_array w _ = false

-- ---- arrays (23.1.3)

-- each value is put after the last element
abbrev pub push_all : Addr → ℕ → List Value → Action
push_all a l [] = give (values.Number (pos l))
push_all a l (v ∷ vs) = write a (changes.Element l v) (push_all a (l + 1) vs)

-- the last value of a list; undefined where it is empty
abbrev pub last_of : List Value → Value
last_of [] = values.Undefined
last_of (v ∷ []) = v
last_of (v ∷ u ∷ vs) = last_of (u ∷ vs)

-- an empty array stays as it is
abbrev pub pop_last : Addr → List Value → Action
pop_last a [] = give values.Undefined
pop_last a (v ∷ vs) = write a (changes.Length (length vs)) (give (last_of (v ∷ vs)))

-- `indexOf` (23.1.3.17): the index of the first element that is `===` to a value, counted from a number on; -1 where
-- none is
abbrev pub first_same : World → ℕ → List Value → Value → ℤ
first_same w i [] v = negsuc 0
first_same w i (u ∷ us) v = if is_same w u v then pos i else first_same w (i + 1) us v

-- texts joined; undefined and null give nothing (23.1.3.18)
abbrev pub joined_part : World → Value → Option (List ℕ)
joined_part w values.Undefined = Some []
joined_part w values.Null = Some []
joined_part w v = text_of w v

-- a text in front of others; none where one of them is none
abbrev pub with_part : Option (List ℕ) → Option (List (List ℕ)) → Option (List (List ℕ))
with_part (Some t) (Some ts) = Some (t ∷ ts)
with_part _ _ = None

-- the texts that `join` puts together, one for each element; none where an element has no text
abbrev pub joined_parts : World → List Value → Option (List (List ℕ))
joined_parts w [] = Some []
joined_parts w (v ∷ vs) = with_part (joined_part w v) (joined_parts w vs)

-- the texts with the separator between each two, as a new string; an error where an element has no text
abbrev pub joined_or_fail : List ℕ → Option (List (List ℕ)) → Action
joined_or_fail separator None = with_result not_a_text give
joined_or_fail separator (Some ts) = make_text (between separator ts) give

-- `join` (23.1.3.18): the separator is a string, or a comma where it is undefined
abbrev pub join : World → List Value → Value → Action
join w vs values.Undefined = joined_or_fail (codes ",") (joined_parts w vs)
join w vs (values.Text a) = joined_or_fail (units_at w a) (joined_parts w vs)
join w vs _ = wrong_type

-- ---- parts of arrays and strings (23.1.3.28, 22.1.3.21)

-- the place that an argument names in so many: negative ones count from the end, and all are clamped; None where it is
-- no number
abbrev pub place : ℕ → ℕ → Value → Option ℕ
place l default values.Undefined = Some default
place l default (values.Number (pos n)) = Some (min n l)
place l default (values.Number (negsuc n)) = Some (l - suc n)
place l default _ = None

-- the elements from one place to before another; none where an argument names no place
abbrev pub part_between : {A : Type 0} → List A → Option ℕ → Option ℕ → Option (List A)
part_between xs (Some i) (Some j) = Some (take (j - i) (drop i xs))
part_between xs _ _ = None

-- the part that the arguments of `slice` name: all where both are undefined
abbrev pub slice_places : {A : Type 0} → List A → List Value → Option (List A)
slice_places xs args =
    part_between xs (place (length xs) 0 (argument args 0)) (place (length xs) (length xs) (argument args 1))

-- the part as a new array; without one an argument was wrong
abbrev pub array_or_wrong : Option (List Value) → Action
array_or_wrong None = wrong_type
array_or_wrong (Some vs) = new_array vs

-- the part as a new string; without one an argument was wrong
abbrev pub text_or_wrong : Option (List ℕ) → Action
text_or_wrong None = wrong_type
text_or_wrong (Some us) = make_text us give

-- ---- strings (22.1.3)

-- a text begins with another
abbrev pub begins_with : List ℕ → List ℕ → Bool
begins_with us [] = true
begins_with [] (v ∷ vs) = false
begins_with (u ∷ us) (v ∷ vs) = nat_eq u v && begins_with us vs

-- the first occurrence of a text
abbrev pub first_occurrence : ℕ → List ℕ → List ℕ → ℤ
first_occurrence i [] vs = if begins_with [] vs then pos i else negsuc 0
first_occurrence i (u ∷ us) vs = if begins_with (u ∷ us) vs then pos i else first_occurrence (i + 1) us vs

-- `indexOf` of a string (22.1.3.9): the place of the first occurrence of its argument, a string; -1 where there is none
abbrev pub occurrence_of : World → List ℕ → Value → Action
occurrence_of w us (values.Text b) = give (values.Number (first_occurrence 0 us (units_at w b)))
occurrence_of w us _ = wrong_type

-- a code unit as a number; an error where there is none, for ECMA-262 answers NaN there
abbrev pub unit_or_fail : Option ℕ → Action
unit_or_fail (Some u) = give (values.Number (pos u))
unit_or_fail None = with_result not_safe give

-- `charCodeAt` (22.1.3.3): the code unit at a place; its argument is a number
abbrev pub unit_at : List ℕ → Value → Action
unit_at us (values.Number (pos i)) = unit_or_fail (slice_get us i)
unit_at us (values.Number (negsuc i)) = unit_or_fail None
unit_at us _ = wrong_type

-- ---- methods: `this` of another kind is a wrong argument

-- a method of arrays on the array at an address, which has these elements
abbrev pub array_call : World → BuiltIn → Addr → List Value → List Value → Action
array_call w built_ins.ArrayPush a vs args = push_all a (length vs) args
array_call w built_ins.ArrayPop a vs args = pop_last a vs
array_call w built_ins.ArrayIndexOf a vs args = give (values.Number (first_same w 0 vs (argument args 0)))
array_call w built_ins.ArrayJoin a vs args = join w vs (argument args 0)
array_call w built_ins.ArraySlice a vs args = array_or_wrong (slice_places vs args)
array_call w _ a vs args = wrong_type

-- a method of arrays on what a cell holds
abbrev pub on_array_cell : World → BuiltIn → Addr → Option Cell → List Value → Action
on_array_cell w f a (Some (cells.Array vs)) args = array_call w f a vs args
on_array_cell w f a _ args = wrong_type

-- a method of arrays on its `this`
abbrev pub on_array : World → BuiltIn → Value → List Value → Action
on_array w f (values.Object a) args = on_array_cell w f a (read_cell w a) args
on_array w f _ args = wrong_type

-- a method of strings on a string of these units
abbrev pub string_call : World → BuiltIn → List ℕ → List Value → Action
string_call w built_ins.StringIndexOf us args = occurrence_of w us (argument args 0)
string_call w built_ins.StringSlice us args = text_or_wrong (slice_places us args)
string_call w built_ins.StringCharCodeAt us args = unit_at us (argument args 0)
string_call w _ us args = wrong_type

-- a method of strings on its `this`
abbrev pub on_string : World → BuiltIn → Value → List Value → Action
on_string w f (values.Text a) args = string_call w f (units_at w a) args
on_string w f _ args = wrong_type

-- a call of a built-in function with a `this` and arguments
abbrev pub built_in_call : World → BuiltIn → Value → List Value → Action
built_in_call w built_ins.ConsoleLog receiver args = log w args
built_in_call w built_ins.ReadLine receiver args = take_line line_value
built_in_call w (built_ins.MakeError class) receiver args = error_of class (argument args 0)
built_in_call w built_ins.ObjectKeys receiver args = keys_of w (argument args 0)
built_in_call w built_ins.ArrayIsArray receiver args = give (values.Bool (is_array w (argument args 0)))
built_in_call w built_ins.MakeString receiver args = string_of w (argument args 0)
built_in_call w built_ins.StringIndexOf receiver args = on_string w built_ins.StringIndexOf receiver args
built_in_call w built_ins.StringSlice receiver args = on_string w built_ins.StringSlice receiver args
built_in_call w built_ins.StringCharCodeAt receiver args = on_string w built_ins.StringCharCodeAt receiver args
built_in_call w f receiver args = on_array w f receiver args
