-- Results, properties, names and built-in functions give only what is live.
use Rattle.std.proofs.Common.{◌≡◌, ℕ, zero, suc, ◌+◌, ◌^◌, Bool, true, false, List, [], ◌∷◌, Option, None, Some, length, refl, sym, subst, if◌then◌else◌}
use Rattle.std.specs.Prelude.{slice_get, ℤ, pos, ◌+ℤ◌, ◌-ℤ◌, ◌*ℤ◌, int_div, int_rem, nat_abs, nat_lt, nat_le, codes}
use Rattle.js_tree_operators.specs.declared.operator.UnaryOperator.{UnaryOperator}
use Rattle.js_tree_operators.specs.declared.operator.UnaryOperator.TheVariants as unaries
use Rattle.js_tree_operators.specs.declared.operator.UpdateOperator.{UpdateOperator}
use Rattle.js_tree_operators.specs.declared.operator.UpdateOperator.TheVariants as updates
use Rattle.js_tree_operators.specs.declared.operator.BinaryOperator.{BinaryOperator}
use Rattle.js_tree_operators.specs.declared.operator.BinaryOperator.TheVariants as binaries
use Rattle.js_heap.specs.declared.value.Addr.{Addr}
use Rattle.js_heap.specs.declared.value.Value.{Value}
use Rattle.js_heap.specs.declared.value.Value.TheVariants as values
use Rattle.js_heap.specs.declared.built_in.BuiltIn.TheVariants as built_ins
use Rattle.js_heap.specs.declared.built_in.ErrorClass.{ErrorClass}
use Rattle.js_heap.specs.declared.cell.Cell.{Cell}
use Rattle.js_heap.specs.declared.cell.Cell.TheVariants as cells
use Rattle.js_heap.specs.declared.cell.Binding.{Binding}
use Rattle.js_heap.specs.declared.cell.Property.{Property}
use Rattle.js_heap.specs.Keys.{same_units, index_of_key, property_at}
use Rattle.js_heap.specs.Cells.{CellKind, kind_of, binding_of}
use Rattle.js_heap.specs.World.{World, read_cell}
use Rattle.js_heap.specs.Worlds.{Leads, IsTextKind, IsObjectKind, SoundValue, SoundIfSome, SoundValues, SoundProperties, SoundNames, SoundCell, SoundChange, IsSound, Later}
use Rattle.js_heap.specs.BuiltIns.{function_value, message_property}
use Rattle.js_heap.proofs.SoundLemmas.{read-sound}
use Rattle.js_semantics.specs.Terms.{Reference, to_name, to_member, to_index}
use Rattle.js_heap.specs.Values.{a_number, text_of, key_of, units_at, same_integer, class_text}
use Rattle.js_heap.specs.declared.computed.Computed.{Computed as Result}
use Rattle.js_heap.specs.declared.computed.Computed.TheVariants.{Value as a_value, Text as a_text, Error as an_error}
use Rattle.js_heap.specs.Operators.{not_safe, safe, quotient, remainder, on_numbers, numeric, joined_texts, sum_of, answer_of, negated, is_before, is_equal, binary_result, number_result, unary_result, update_result}
use Rattle.js_heap.specs.Properties.{value_or, array_method, string_method, element_or_method, unit_or_undefined, unit_or_method, function_property, own_or, error_property, cell_property, property_of, not_changeable, length_change, array_change, cell_change, property_written, cell_removal, property_deleted, bad_key}
use Rattle.js_heap.specs.declared.computed.Written.{Written}
use Rattle.js_heap.specs.declared.computed.Written.TheVariants.{Change as a_change, Refused as refused}
use Rattle.js_semantics.specs.References.{Found, found_here, found_outward, found_in, found_within, found, value_or_uninitialized, value_of_found, bound_unless, name_written, with_result, with_written, with_key, keyed_result, read_result, get, put, remove}
use Rattle.js_semantics.specs.State.{Action, make, give, make_text, fail}
use Rattle.js_semantics.specs.Sound.{HasBuiltIns, SoundAction}
use Rattle.js_semantics.proofs.SoundTerms.{later-same}

-- ---- continuations

abbrev pub SoundK : World → (Value → Action) → Type 0
SoundK w k = (v : World) → Later w v → (x : Value) → SoundValue v x → SoundAction v (k x)

abbrev pub SoundThen : World → Action → Type 0
SoundThen w k = (v : World) → Later w v → SoundAction v k

pub give-sound : (w : World) → SoundK w give
give-sound w v l x h = h

pub leads-as : (P : CellKind → Type 0) (c : Cell) (o : Option Cell)
    → P (kind_of c)
    → Leads (λ k. k ≡ kind_of c) o
    → Leads P o
leads-as P c None p h = absurd h
leads-as P c (Some d) p h = subst P (sym h) p

pub make_text-sound : (w : World) (us : List ℕ) (k : Value → Action) → SoundK w k → SoundAction w (make_text us k)
make_text-sound w us k h =
    (tt, λ v a l e. h v l (values.Text a) (leads-as IsTextKind (cells.Text us) (read_cell v a) refl e))

pub make_object-sound : (w : World) (c : Cell)
    → SoundCell w c
    → IsObjectKind (kind_of c)
    → SoundAction w (make c (λ a. give (values.Object a)))
make_object-sound w c h p = (h, λ v a l e. leads-as IsObjectKind c (read_cell v a) p e)

pub fail-sound : (w : World) (class : ErrorClass) (message : List ℕ) → SoundAction w (fail class message)
fail-sound w class message = (
  tt,
  λ v a l e. (
    (leads-as IsTextKind (cells.Text message) (read_cell v a) refl e, tt),
    λ u b m f. leads-as IsObjectKind (cells.Error class (message_property (values.Text a) ∷ [])) (read_cell u b) tt f,
  ),
)

-- ---- results

abbrev pub SoundResult : World → Result → Type 0
SoundResult w (a_value v) = SoundValue w v
SoundResult w (a_text us) = Unit {0}
SoundResult w (an_error class message) = Unit {0}

pub with_result-sound : (w : World) (r : Result) (k : Value → Action)
    → SoundResult w r
    → SoundK w k
    → SoundAction w (with_result r k)
with_result-sound w (a_value v) k h s = s w (later-same w) v h
with_result-sound w (a_text us) k h s = make_text-sound w us k s
with_result-sound w (an_error class message) k h s = fail-sound w class message

pub result_if : (w : World) (b : Bool) (r q : Result)
    → SoundResult w r
    → SoundResult w q
    → SoundResult w (if b then r else q)
result_if w true r q h k = h
result_if w false r q h k = k

safe-sound : (w : World) (z : ℤ) → SoundResult w (safe z)
safe-sound w z = result_if w (nat_lt (nat_abs z) (2 ^ 53)) (a_number z) not_safe tt tt

quotient-sound : (w : World) (y z : ℤ) → SoundResult w (quotient y z)
quotient-sound w y z =
    result_if w (same_integer z (pos 0)) not_safe
    (if same_integer (int_rem y z) (pos 0) then safe (int_div y z) else not_safe) tt
    (result_if w (same_integer (int_rem y z) (pos 0)) (safe (int_div y z)) not_safe (safe-sound w (int_div y z)) tt)

remainder-sound : (w : World) (y z : ℤ) → SoundResult w (remainder y z)
remainder-sound w y z =
    result_if w (same_integer z (pos 0)) not_safe (safe (int_rem y z)) tt (safe-sound w (int_rem y z))

on_numbers-sound : (w : World) (o : BinaryOperator) (y z : ℤ) → SoundResult w (on_numbers o y z)
on_numbers-sound w binaries.Add y z = safe-sound w (y +ℤ z)
on_numbers-sound w binaries.Subtract y z = safe-sound w (y -ℤ z)
on_numbers-sound w binaries.Multiply y z = safe-sound w (y *ℤ z)
on_numbers-sound w binaries.Divide y z = quotient-sound w y z
on_numbers-sound w binaries.Remainder y z = remainder-sound w y z
on_numbers-sound w _ y z = tt

pub numeric-sound : (w : World) (o : BinaryOperator) (x y : Value) → SoundResult w (numeric o x y)
numeric-sound w o (values.Number y) (values.Number z) = on_numbers-sound w o y z
numeric-sound w o _ _ = tt

joined_texts-sound : (w : World) (t u : Option (List ℕ)) → SoundResult w (joined_texts t u)
joined_texts-sound w (Some t) (Some u) = tt
joined_texts-sound w (Some t) None = tt
joined_texts-sound w None u = tt

sum-sound : (w v : World) (x y : Value) → SoundResult v (sum_of w x y)
sum-sound w v (values.Text a) y = joined_texts-sound v (Some (units_at w a)) (text_of w y)
sum-sound w v values.Undefined (values.Text b) = tt
sum-sound w v values.Null (values.Text b) = tt
sum-sound w v (values.Bool c) (values.Text b) = tt
sum-sound w v (values.Number z) (values.Text b) = tt
sum-sound w v (values.Object a) (values.Text b) = tt
sum-sound w v (values.Number y) (values.Number z) = on_numbers-sound v binaries.Add y z
sum-sound w v _ _ = tt

answer-sound : (w : World) (o : Option Bool) → SoundResult w (answer_of o)
answer-sound w None = tt
answer-sound w (Some b) = tt

pub binary-sound : (w v : World) (o : BinaryOperator) (x y : Value) → SoundResult v (binary_result w o x y)
binary-sound w v binaries.Add x y = sum-sound w v x y
binary-sound w v binaries.LessThan x y = answer-sound v (is_before w x y)
binary-sound w v binaries.GreaterThan x y = answer-sound v (is_before w y x)
binary-sound w v binaries.LessThanOrEqual x y = answer-sound v (negated (is_before w y x))
binary-sound w v binaries.GreaterThanOrEqual x y = answer-sound v (negated (is_before w x y))
binary-sound w v binaries.StrictEqual x y = tt
binary-sound w v binaries.StrictNotEqual x y = tt
binary-sound w v binaries.Equal x y = answer-sound v (is_equal w x y)
binary-sound w v binaries.NotEqual x y = answer-sound v (negated (is_equal w x y))
binary-sound w v o x y = numeric-sound v o x y

number_result-sound : (w : World) (o : UnaryOperator) (x : Value) → SoundResult w (number_result o x)
number_result-sound w unaries.Plus (values.Number z) = tt
number_result-sound w unaries.Minus (values.Number z) = tt
number_result-sound w unaries.BitwiseNot (values.Number z) = tt
number_result-sound w _ _ = tt

pub unary-sound : (w v : World) (o : UnaryOperator) (x : Value) → SoundResult v (unary_result w o x)
unary-sound w v unaries.Void x = tt
unary-sound w v unaries.Typeof x = tt
unary-sound w v unaries.LogicalNot x = tt
unary-sound w v o x = number_result-sound v o x

pub update-sound : (w : World) (o : UpdateOperator) (x : Value) → SoundResult w (update_result o x)
update-sound w updates.Increment x = numeric-sound w binaries.Add x (values.Number (pos 1))
update-sound w updates.Decrement x = numeric-sound w binaries.Subtract x (values.Number (pos 1))

-- ---- properties

abbrev SoundProperty : World → Option Property → Type 0
SoundProperty w None = Unit {0}
SoundProperty w (Some p) = SoundValue w p.value

property_if : (w : World) (b : Bool) (p : Property) (o : Option Property)
    → SoundValue w p.value
    → SoundProperty w o
    → SoundProperty w (if b then Some p else o)
property_if w true p o h k = h
property_if w false p o h k = k

property_at-sound : (w : World) (ps : List Property) (key : List ℕ)
    → SoundProperties w ps
    → SoundProperty w (property_at ps key)
property_at-sound w [] key h = tt
property_at-sound w (p ∷ ps) key h =
    property_if w (same_units p.key key) p (property_at ps key) h.0 (property_at-sound w ps key h.1)

own_or-sound : (w : World) (o : Option Property) (r : Result)
    → SoundProperty w o
    → SoundResult w r
    → SoundResult w (own_or o r)
own_or-sound w (Some p) r h k = h
own_or-sound w None r h k = k

pub get-value : (w : World) (vs : List Value) (i : ℕ) → SoundValues w vs → SoundIfSome w (slice_get vs i)
get-value w [] i h = tt
get-value w (v ∷ vs) zero h = h.0
get-value w (v ∷ vs) (suc i) h = get-value w vs i h.1

value_or-sound : (w : World) (o : Option Value) (r : Result)
    → SoundIfSome w o
    → SoundResult w r
    → SoundResult w (value_or o r)
value_or-sound w (Some v) r h k = h
value_or-sound w None r h k = k

array_method-sound : (w : World) → HasBuiltIns w → (key : List ℕ) → SoundResult w (array_method key)
array_method-sound w b key =
    let n : Result = a_value values.Undefined in
    let slice : Result = if same_units key (codes "slice") then a_value (function_value built_ins.ArraySlice) else n in
    let join : Result = if same_units key (codes "join") then a_value (function_value built_ins.ArrayJoin) else slice in
    let index : Result = if same_units key (codes "indexOf") then a_value (function_value built_ins.ArrayIndexOf)
    else join in
    let pop : Result = if same_units key (codes "pop") then a_value (function_value built_ins.ArrayPop) else index in
    result_if w (same_units key (codes "push")) (a_value (function_value built_ins.ArrayPush)) pop
    (b.functions built_ins.ArrayPush)
    (result_if w (same_units key (codes "pop")) (a_value (function_value built_ins.ArrayPop)) index
    (b.functions built_ins.ArrayPop)
    (result_if w (same_units key (codes "indexOf")) (a_value (function_value built_ins.ArrayIndexOf)) join
    (b.functions built_ins.ArrayIndexOf)
    (result_if w (same_units key (codes "join")) (a_value (function_value built_ins.ArrayJoin)) slice
    (b.functions built_ins.ArrayJoin)
    (result_if w (same_units key (codes "slice")) (a_value (function_value built_ins.ArraySlice)) n
    (b.functions built_ins.ArraySlice) tt))))

string_method-sound : (w : World) → HasBuiltIns w → (key : List ℕ) → SoundResult w (string_method key)
string_method-sound w b key =
    let n : Result = a_value values.Undefined in
    let unit : Result = if same_units key (codes "charCodeAt") then a_value (function_value built_ins.StringCharCodeAt)
    else n in
    let slice : Result = if same_units key (codes "slice") then a_value (function_value built_ins.StringSlice)
    else unit in
    result_if w (same_units key (codes "indexOf")) (a_value (function_value built_ins.StringIndexOf)) slice
    (b.functions built_ins.StringIndexOf)
    (result_if w (same_units key (codes "slice")) (a_value (function_value built_ins.StringSlice)) unit
    (b.functions built_ins.StringSlice)
    (result_if w (same_units key (codes "charCodeAt")) (a_value (function_value built_ins.StringCharCodeAt)) n
    (b.functions built_ins.StringCharCodeAt) tt))

element-sound : (w : World)
    → HasBuiltIns w
    → (vs : List Value) (key : List ℕ) (o : Option ℕ)
    → SoundValues w vs
    → SoundResult w (element_or_method vs key o)
element-sound w b vs key (Some i) h =
    value_or-sound w (slice_get vs i) (a_value values.Undefined) (get-value w vs i h) tt
element-sound w b vs key None h =
    result_if w (same_units key (codes "length")) (a_number (pos (length vs))) (array_method key) tt
    (array_method-sound w b key)

unit-sound : (w : World) (o : Option ℕ) → SoundResult w (unit_or_undefined o)
unit-sound w (Some u) = tt
unit-sound w None = tt

text_property-sound : (w : World)
    → HasBuiltIns w
    → (us key : List ℕ) (o : Option ℕ)
    → SoundResult w (unit_or_method us key o)
text_property-sound w b us key (Some i) = unit-sound w (slice_get us i)
text_property-sound w b us key None =
    result_if w (same_units key (codes "length")) (a_number (pos (length us))) (string_method key) tt
    (string_method-sound w b key)

function_property-sound : (w : World) (n : List ℕ) (l : ℕ) (key : List ℕ) → SoundResult w (function_property n l key)
function_property-sound w n l key =
    let rest : Result = if same_units key (codes "length") then a_number (pos l) else a_value values.Undefined in
    result_if w (same_units key (codes "name")) (a_text n) rest tt
    (result_if w (same_units key (codes "length")) (a_number (pos l)) (a_value values.Undefined) tt tt)

error_property-sound : (w : World) (class : ErrorClass) (key : List ℕ) → SoundResult w (error_property class key)
error_property-sound w class key =
    let rest : Result = if same_units key (codes "message") then a_text [] else a_value values.Undefined in
    result_if w (same_units key (codes "name")) (a_text (class_text class)) rest tt
    (result_if w (same_units key (codes "message")) (a_text []) (a_value values.Undefined) tt tt)

cell_property-sound : (w : World)
    → HasBuiltIns w
    → (o : Option Cell) (key : List ℕ)
    → ((c : Cell) → o ≡ Some c → SoundCell w c)
    → SoundResult w (cell_property o key)
cell_property-sound w b None key h = tt
cell_property-sound w b (Some (cells.Object ps)) key h =
    own_or-sound w (property_at ps key) (a_value values.Undefined)
    (property_at-sound w ps key (h (cells.Object ps) refl)) tt
cell_property-sound w b (Some (cells.Error class ps)) key h =
    own_or-sound w (property_at ps key) (error_property class key)
    (property_at-sound w ps key (h (cells.Error class ps) refl)) (error_property-sound w class key)
cell_property-sound w b (Some (cells.Array vs)) key h =
    element-sound w b vs key (index_of_key key) (h (cells.Array vs) refl)
cell_property-sound w b (Some (cells.Function code n l s t)) key h = function_property-sound w n l key
cell_property-sound w b (Some (cells.Text us)) key h = tt
cell_property-sound w b (Some (cells.Bindings k n o ns)) key h = tt

pub property-sound : (w : World)
    → IsSound w
    → HasBuiltIns w
    → (o : Value) (key : List ℕ)
    → SoundResult w (property_of w o key)
property-sound w s b values.Undefined key = tt
property-sound w s b values.Null key = tt
property-sound w s b (values.Bool x) key = tt
property-sound w s b (values.Number z) key = tt
property-sound w s b (values.Text a) key = text_property-sound w b (units_at w a) key (index_of_key key)
property-sound w s b (values.Object a) key = cell_property-sound w b (read_cell w a) key (λ c e. read-sound w a c e s)

-- ---- writing

abbrev pub SoundWritten : World → Written → Type 0
SoundWritten w (a_change a c) = SoundChange w c
SoundWritten w (refused class message) = Unit {0}

pub with_written-sound : (w : World) (r : Written) (k : Action)
    → SoundWritten w r
    → SoundThen w k
    → SoundAction w (with_written r k)
with_written-sound w (a_change a c) k h s = (h, s)
with_written-sound w (refused class message) k h s = fail-sound w class message

written_if : (w : World) (b : Bool) (r q : Written)
    → SoundWritten w r
    → SoundWritten w q
    → SoundWritten w (if b then r else q)
written_if w true r q h k = h
written_if w false r q h k = k

length-sound : (w : World) (a : Addr) (vs : List Value) (x : Value) → SoundWritten w (length_change a vs x)
length-sound w a vs (values.Number (pos l)) = written_if w (nat_le l (length vs)) _ _ tt tt
length-sound w a vs _ = tt

array_change-sound : (w : World) (a : Addr) (vs : List Value) (key : List ℕ) (o : Option ℕ) (x : Value)
    → SoundValue w x
    → SoundWritten w (array_change a vs key o x)
array_change-sound w a vs key (Some i) x h = written_if w (nat_le i (length vs)) _ _ h tt
array_change-sound w a vs key None x h =
    written_if w (same_units key (codes "length")) (length_change a vs x) (not_changeable key) (length-sound w a vs x)
    tt

cell_change-sound : (w : World) (a : Addr) (o : Option Cell) (key : List ℕ) (x : Value)
    → SoundValue w x
    → SoundWritten w (cell_change a o key x)
cell_change-sound w a None key x h = tt
cell_change-sound w a (Some (cells.Object ps)) key x h = h
cell_change-sound w a (Some (cells.Error class ps)) key x h = h
cell_change-sound w a (Some (cells.Array vs)) key x h = array_change-sound w a vs key (index_of_key key) x h
cell_change-sound w a _ key x h = tt

property_written-sound : (w v : World) (o : Value) (key : List ℕ) (x : Value)
    → SoundValue v x
    → SoundWritten v (property_written w o key x)
property_written-sound w v (values.Object a) key x h = cell_change-sound v a (read_cell w a) key x h
property_written-sound w v _ key x h = tt

cell_removal-sound : (w : World) (a : Addr) (o : Option Cell) (key : List ℕ) → SoundWritten w (cell_removal a o key)
cell_removal-sound w a None key = tt
cell_removal-sound w a (Some (cells.Object ps)) key = tt
cell_removal-sound w a (Some (cells.Error class ps)) key = tt
cell_removal-sound w a (Some (cells.Array vs)) key = tt
cell_removal-sound w a (Some (cells.Function code n l s t)) key = tt
cell_removal-sound w a (Some (cells.Text us)) key = tt
cell_removal-sound w a (Some (cells.Bindings k n o ns)) key = tt

property_deleted-sound : (w v : World) (o : Value) (key : List ℕ) → SoundWritten v (property_deleted w o key)
property_deleted-sound w v (values.Object a) key = cell_removal-sound v a (read_cell w a) key
property_deleted-sound w v _ key = tt

-- ---- names

abbrev pub SoundFound : World → Option Found → Type 0
SoundFound w None = Unit {0}
SoundFound w (Some f) = SoundIfSome w f.binding.value

abbrev SoundOfName : World → Option Binding → Type 0
SoundOfName w None = Unit {0}
SoundOfName w (Some b) = SoundIfSome w b.value

name_if : (w : World) (t : Bool) (b : Binding) (o : Option Binding)
    → SoundIfSome w b.value
    → SoundOfName w o
    → SoundOfName w (if t then Some b else o)
name_if w true b o h k = h
name_if w false b o h k = k

binding-sound : (w : World) (bs : List Binding) (n : List ℕ) → SoundNames w bs → SoundOfName w (binding_of bs n)
binding-sound w [] n h = tt
binding-sound w (b ∷ bs) n h = name_if w (same_units b.name n) b (binding_of bs n) h.0 (binding-sound w bs n h.1)

here-sound : (w : World) (a : Addr) (o : Option Binding) (further : Option Found)
    → SoundOfName w o
    → SoundFound w further
    → SoundFound w (found_here a o further)
here-sound w a (Some b) further h k = h
here-sound w a None further h k = k

outward-sound : (w : World) (o : Option Addr) (further : Addr → Option Found)
    → ((a : Addr) → SoundFound w (further a))
    → SoundFound w (found_outward o further)
outward-sound w None further h = tt
outward-sound w (Some a) further h = h a

in-sound : (w : World) (a : Addr) (o : Option Cell) (name : List ℕ) (further : Addr → Option Found)
    → ((c : Cell) → o ≡ Some c → SoundCell w c)
    → ((b : Addr) → SoundFound w (further b))
    → SoundFound w (found_in a o name further)
in-sound w a None name further h k = tt
in-sound w a (Some (cells.Bindings kind n outer ns)) name further h k =
    let c = h (cells.Bindings kind n outer ns) refl in
    here-sound w a (binding_of ns name) (found_outward outer further) (binding-sound w ns name c.1)
    (outward-sound w outer further k)
in-sound w a _ name further h k = tt

within-sound : (n : ℕ) (w : World) (name : List ℕ) → IsSound w → (a : Addr) → SoundFound w (found_within n w name a)
within-sound zero w name s a = tt
within-sound (suc n) w name s a =
    in-sound w a (read_cell w a) name (found_within n w name) (λ c e. read-sound w a c e s) (within-sound n w name s)

pub found-sound : (w : World) → IsSound w → (scope : Addr) (name : List ℕ) → SoundFound w (found w scope name)
found-sound w s scope name = within-sound (length w.base + length w.scratch) w name s scope

uninitialized-sound : (w : World) (name : List ℕ) (o : Option Value)
    → SoundIfSome w o
    → SoundResult w (value_or_uninitialized name o)
uninitialized-sound w name (Some v) h = h
uninitialized-sound w name None h = tt

pub value_of_found-sound : (w : World) (name : List ℕ) (o : Option Found)
    → SoundFound w o
    → SoundResult w (value_of_found name o)
value_of_found-sound w name None h = tt
value_of_found-sound w name (Some f) h = uninitialized-sound w name f.binding.value h

unless-sound : (w : World) (name : List ℕ) (constant : Bool) (o : Option Value) (scope : Addr) (x : Value)
    → SoundValue w x
    → SoundWritten w (bound_unless name constant o scope x)
unless-sound w name constant None scope x h = tt
unless-sound w name true (Some u) scope x h = tt
unless-sound w name false (Some u) scope x h = h

name_written-sound : (w : World) (name : List ℕ) (o : Option Found) (x : Value)
    → SoundValue w x
    → SoundWritten w (name_written name o x)
name_written-sound w name None x h = tt
name_written-sound w name (Some f) x h = unless-sound w name f.binding.constant f.binding.value f.scope x h

-- ---- references

pub with_key-sound : (w : World) (o : Option (List ℕ)) (k : List ℕ → Action)
    → ((key : List ℕ) → SoundAction w (k key))
    → SoundAction w (with_key o k)
with_key-sound w None k h = with_result-sound w bad_key give tt (give-sound w)
with_key-sound w (Some key) k h = h key

keyed_result-sound : (w : World) (o : Option (List ℕ)) (k : List ℕ → Result)
    → ((key : List ℕ) → SoundResult w (k key))
    → SoundResult w (keyed_result o k)
keyed_result-sound w None k h = tt
keyed_result-sound w (Some key) k h = h key

pub read_result-sound : (w : World)
    → IsSound w
    → HasBuiltIns w
    → (scope : Addr) (r : Reference) (vs : List Value)
    → SoundResult w (read_result w scope r vs)
read_result-sound w s b scope (to_name n) vs = value_of_found-sound w n (found w scope n) (found-sound w s scope n)
read_result-sound w s b scope (to_member key) [] = tt
read_result-sound w s b scope (to_member key) (o ∷ vs) = property-sound w s b o key
read_result-sound w s b scope to_index [] = tt
read_result-sound w s b scope to_index (o ∷ []) = tt
read_result-sound w s b scope to_index (o ∷ i ∷ vs) =
    keyed_result-sound w (key_of w i) (property_of w o) (property-sound w s b o)

pub get-sound : (w : World)
    → IsSound w
    → HasBuiltIns w
    → (scope : Addr) (r : Reference) (vs : List Value) (k : Value → Action)
    → SoundK w k
    → SoundAction w (get w scope r vs k)
get-sound w s b scope r vs k h = with_result-sound w (read_result w scope r vs) k (read_result-sound w s b scope r vs) h

pub put-sound : (w v : World) (scope : Addr) (r : Reference) (vs : List Value) (x : Value) (k : Action)
    → SoundValue v x
    → SoundThen v k
    → SoundAction v (put w scope r vs x k)
put-sound w v scope (to_name n) vs x k h t =
    with_written-sound v (name_written n (found w scope n) x) k (name_written-sound v n (found w scope n) x h) t
put-sound w v scope (to_member key) [] x k h t = tt
put-sound w v scope (to_member key) (o ∷ vs) x k h t =
    with_written-sound v (property_written w o key x) k (property_written-sound w v o key x h) t
put-sound w v scope to_index [] x k h t = tt
put-sound w v scope to_index (o ∷ []) x k h t = tt
put-sound w v scope to_index (o ∷ i ∷ vs) x k h t =
    with_key-sound v (key_of w i) (λ key. with_written (property_written w o key x) k)
    (λ key. with_written-sound v (property_written w o key x) k (property_written-sound w v o key x h) t)

pub remove-sound : (w v : World) (r : Reference) (vs : List Value) (k : Action)
    → SoundThen v k
    → SoundAction v (remove w r vs k)
remove-sound w v (to_name n) vs k t = tt
remove-sound w v (to_member key) [] k t = tt
remove-sound w v (to_member key) (o ∷ vs) k t =
    with_written-sound v (property_deleted w o key) k (property_deleted-sound w v o key) t
remove-sound w v to_index [] k t = tt
remove-sound w v to_index (o ∷ []) k t = tt
remove-sound w v to_index (o ∷ i ∷ vs) k t =
    with_key-sound v (key_of w i) (λ key. with_written (property_deleted w o key) k)
    (λ key. with_written-sound v (property_deleted w o key) k (property_deleted-sound w v o key) t)
