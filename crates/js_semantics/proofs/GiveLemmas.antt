-- What goes on with values alone: built-in functions, writes, and most of the other rows.
use Rattle.std.proofs.Common.{ℕ, ◌+◌, Bool, List, [], ◌∷◌, Option, None, Some, length}
use Rattle.std.specs.Prelude.{slice_get, pos, negsuc, codes}
use Rattle.js_tree_operators.specs.declared.operator.UpdateOperator.{UpdateOperator}
use Rattle.js_heap.specs.declared.value.Addr.{Addr}
use Rattle.js_heap.specs.declared.value.Value.{Value}
use Rattle.js_heap.specs.declared.value.Value.TheVariants as values
use Rattle.js_heap.specs.declared.built_in.BuiltIn.{BuiltIn}
use Rattle.js_heap.specs.declared.built_in.BuiltIn.TheVariants as built_ins
use Rattle.js_heap.specs.declared.built_in.ErrorClass.{ErrorClass}
use Rattle.js_heap.specs.declared.built_in.ErrorClass.TheVariants as classes
use Rattle.js_heap.specs.declared.cell.Cell.{Cell}
use Rattle.js_heap.specs.declared.cell.Cell.TheVariants as cells
use Rattle.js_heap.specs.declared.cell.Property.{Property}
use Rattle.js_heap.specs.World.{World, read_cell}
use Rattle.js_heap.specs.Values.{text_of, units_at, type_text, key_of}
use Rattle.js_heap.specs.Operators.{not_numbers, not_a_text, not_safe, update_result}
use Rattle.js_heap.specs.Properties.{property_written, property_deleted}
use Rattle.js_heap.specs.declared.computed.Computed.{Computed as Result}
use Rattle.js_heap.specs.declared.computed.Computed.TheVariants.{Value as a_value, Text as a_text, Error as an_error}
use Rattle.js_heap.specs.declared.computed.Written.{Written}
use Rattle.js_heap.specs.declared.computed.Written.TheVariants.{Change as a_change, Refused as refused}
use Rattle.js_semantics.specs.Terms.{Reference, to_name, to_member, to_index, FunctionForm, Term, done, standing, part}
use Rattle.js_semantics.specs.State.{State, Action, make, give, make_text, fail, this_of}
use Rattle.js_semantics.specs.References.{Found, found, value_of_found, name_written, with_result, with_written, with_key, read_result, put, remove}
use Rattle.js_semantics.specs.BuiltIns.{argument, wrong_type, line_value, error_of, text_or_fail, string_of, keys_of_cell, make_texts, new_array, keys_of, push_all, pop_last, joined_or_fail, joined_parts, join, slice_places, array_or_wrong, text_or_wrong, occurrence_of, unit_or_fail, unit_at, array_call, on_array_cell, on_array, string_call, on_string, built_in_call}
use Rattle.js_semantics.specs.Functions.{function_cell, receiver_of, named_function, function_row}
use Rattle.js_semantics.specs.Rows.{type_of_found, update_value, updated_by, update_row, object_or_fail}
use Rattle.js_semantics.proofs.ActionLemmas.{GoesOn, fail-goes, result-goes, key-goes, choose-goes}

-- a value
abbrev pub IsValue : Term → Type 0
IsValue (done v) = Unit {0}
IsValue (standing v place) = ⊥
IsValue (part f now later) = ⊥

-- an action that comes to values or raises, and touches no frame
abbrev pub GivesValues : Action → Type 0
GivesValues a = GoesOn IsValue ⊥ a

-- ---- results and references

abbrev pub GivesK : (Value → Action) → Type 0
GivesK k = (x : Value) → GivesValues (k x)

give-gives : GivesK give
give-gives x = tt

fail-gives : (class : ErrorClass) (message : List ℕ) → GivesValues (fail class message)
fail-gives class message = fail-goes IsValue ⊥ class message

text-gives : (us : List ℕ) (k : Value → Action) → GivesK k → GivesValues (make_text us k)
text-gives us k h = λ a. h (values.Text a)

result-gives : (r : Result) (k : Value → Action) → GivesK k → GivesValues (with_result r k)
result-gives r k h = result-goes IsValue ⊥ r k h

written-gives : (r : Written) (k : Action) → GivesValues k → GivesValues (with_written r k)
written-gives (a_change a c) k h = h
written-gives (refused class message) k h = fail-gives class message

key-gives : (o : Option (List ℕ)) (k : List ℕ → Action)
    → ((key : List ℕ) → GivesValues (k key))
    → GivesValues (with_key o k)
key-gives o k h = key-goes IsValue ⊥ o k h

pub put-gives : (w : World) (scope : Addr) (r : Reference) (vs : List Value) (x : Value) (k : Action)
    → GivesValues k
    → GivesValues (put w scope r vs x k)
put-gives w scope (to_name n) vs x k h = written-gives (name_written n (found w scope n) x) k h
put-gives w scope (to_member key) [] x k h = tt
put-gives w scope (to_member key) (o ∷ vs) x k h = written-gives (property_written w o key x) k h
put-gives w scope to_index [] x k h = tt
put-gives w scope to_index (o ∷ []) x k h = tt
put-gives w scope to_index (o ∷ i ∷ vs) x k h =
    key-gives (key_of w i) (λ key. with_written (property_written w o key x) k)
    (λ key. written-gives (property_written w o key x) k h)

pub remove-gives : (w : World) (r : Reference) (vs : List Value) (k : Action)
    → GivesValues k
    → GivesValues (remove w r vs k)
remove-gives w (to_name n) vs k h = tt
remove-gives w (to_member key) [] k h = tt
remove-gives w (to_member key) (o ∷ vs) k h = written-gives (property_deleted w o key) k h
remove-gives w to_index [] k h = tt
remove-gives w to_index (o ∷ []) k h = tt
remove-gives w to_index (o ∷ i ∷ vs) k h =
    key-gives (key_of w i) (λ key. with_written (property_deleted w o key) k)
    (λ key. written-gives (property_deleted w o key) k h)

-- ---- built-in functions give values

wrong-gives : GivesValues wrong_type
wrong-gives = fail-gives classes.TypeError (codes "Argument has a wrong type")

line-gives : (o : Option (List ℕ)) → GivesValues (line_value o)
line-gives None = tt
line-gives (Some us) = text-gives us give give-gives

error-gives : (class : ErrorClass) (x : Value) → GivesValues (error_of class x)
error-gives class (values.Text a) = λ b. tt
error-gives class values.Undefined = λ b. tt
error-gives class _ = wrong-gives

text_or_fail-gives : (o : Option (List ℕ)) → GivesValues (text_or_fail o)
text_or_fail-gives None = result-gives not_a_text give give-gives
text_or_fail-gives (Some us) = text-gives us give give-gives

string-gives : (w : World) (x : Value) → GivesValues (string_of w x)
string-gives w (values.Text a) = tt
string-gives w values.Undefined = text_or_fail-gives (text_of w values.Undefined)
string-gives w values.Null = text_or_fail-gives (text_of w values.Null)
string-gives w (values.Bool b) = text_or_fail-gives (text_of w (values.Bool b))
string-gives w (values.Number z) = text_or_fail-gives (text_of w (values.Number z))
string-gives w (values.Object a) = text_or_fail-gives (text_of w (values.Object a))

texts-gives : (ts : List (List ℕ)) (k : List Value → Action)
    → ((xs : List Value) → GivesValues (k xs))
    → GivesValues (make_texts ts k)
texts-gives [] k h = h []
texts-gives (t ∷ ts) k h =
    text-gives t (λ x. make_texts ts (λ xs. k (x ∷ xs))) (λ x. texts-gives ts (λ xs. k (x ∷ xs)) (λ xs. h (x ∷ xs)))

keys-gives : (w : World) (x : Value) → GivesValues (keys_of w x)
keys-gives w (values.Object a) = texts-gives (keys_of_cell (read_cell w a)) new_array (λ xs a. tt)
keys-gives w _ = wrong-gives

push-gives : (a : Addr) (l : ℕ) (xs : List Value) → GivesValues (push_all a l xs)
push-gives a l [] = tt
push-gives a l (x ∷ xs) = push-gives a (l + 1) xs

pop-gives : (a : Addr) (xs : List Value) → GivesValues (pop_last a xs)
pop-gives a [] = tt
pop-gives a (x ∷ xs) = tt

joined_texts-gives : (us : List ℕ) (o : Option (List (List ℕ))) → GivesValues (joined_or_fail us o)
joined_texts-gives us None = result-gives not_a_text give give-gives
joined_texts-gives us (Some ts) = λ a. tt

join-gives : (w : World) (vs : List Value) (x : Value) → GivesValues (join w vs x)
join-gives w vs values.Undefined = joined_texts-gives (codes ",") (joined_parts w vs)
join-gives w vs (values.Text a) = joined_texts-gives (units_at w a) (joined_parts w vs)
join-gives w vs _ = wrong-gives

array_or_wrong-gives : (o : Option (List Value)) → GivesValues (array_or_wrong o)
array_or_wrong-gives None = wrong-gives
array_or_wrong-gives (Some vs) = λ a. tt

text_or_wrong-gives : (o : Option (List ℕ)) → GivesValues (text_or_wrong o)
text_or_wrong-gives None = wrong-gives
text_or_wrong-gives (Some us) = λ a. tt

occurrence-gives : (w : World) (us : List ℕ) (x : Value) → GivesValues (occurrence_of w us x)
occurrence-gives w us (values.Text b) = tt
occurrence-gives w us _ = wrong-gives

unit_or_fail-gives : (o : Option ℕ) → GivesValues (unit_or_fail o)
unit_or_fail-gives (Some u) = tt
unit_or_fail-gives None = result-gives not_safe give give-gives

unit_at-gives : (us : List ℕ) (x : Value) → GivesValues (unit_at us x)
unit_at-gives us (values.Number (pos i)) = unit_or_fail-gives (slice_get us i)
unit_at-gives us (values.Number (negsuc i)) = unit_or_fail-gives None
unit_at-gives us _ = wrong-gives

array_call-gives : (w : World) (f : BuiltIn) (a : Addr) (vs args : List Value) → GivesValues (array_call w f a vs args)
array_call-gives w built_ins.ArrayPush a vs args = push-gives a (length vs) args
array_call-gives w built_ins.ArrayPop a vs args = pop-gives a vs
array_call-gives w built_ins.ArrayIndexOf a vs args = tt
array_call-gives w built_ins.ArrayJoin a vs args = join-gives w vs (argument args 0)
array_call-gives w built_ins.ArraySlice a vs args = array_or_wrong-gives (slice_places vs args)
array_call-gives w _ a vs args = wrong-gives

on_cell-gives : (w : World) (f : BuiltIn) (a : Addr) (o : Option Cell) (args : List Value)
    → GivesValues (on_array_cell w f a o args)
on_cell-gives w f a None args = wrong-gives
on_cell-gives w f a (Some (cells.Array vs)) args = array_call-gives w f a vs args
on_cell-gives w f a _ args = wrong-gives

on_array-gives : (w : World) (f : BuiltIn) (x : Value) (args : List Value) → GivesValues (on_array w f x args)
on_array-gives w f (values.Object a) args = on_cell-gives w f a (read_cell w a) args
on_array-gives w f _ args = wrong-gives

string_call-gives : (w : World) (f : BuiltIn) (us : List ℕ) (args : List Value) → GivesValues (string_call w f us args)
string_call-gives w built_ins.StringIndexOf us args = occurrence-gives w us (argument args 0)
string_call-gives w built_ins.StringSlice us args = text_or_wrong-gives (slice_places us args)
string_call-gives w built_ins.StringCharCodeAt us args = unit_at-gives us (argument args 0)
string_call-gives w _ us args = wrong-gives

on_string-gives : (w : World) (f : BuiltIn) (x : Value) (args : List Value) → GivesValues (on_string w f x args)
on_string-gives w f (values.Text a) args = string_call-gives w f (units_at w a) args
on_string-gives w f _ args = wrong-gives

pub built_in-gives : (w : World) (f : BuiltIn) (x : Value) (args : List Value) → GivesValues (built_in_call w f x args)
built_in-gives w built_ins.ConsoleLog x args = tt
built_in-gives w built_ins.ReadLine x args = λ line. line-gives line
built_in-gives w (built_ins.MakeError class) x args = error-gives class (argument args 0)
built_in-gives w built_ins.ObjectKeys x args = keys-gives w (argument args 0)
built_in-gives w built_ins.ArrayIsArray x args = tt
built_in-gives w built_ins.MakeString x args = string-gives w (argument args 0)
built_in-gives w built_ins.StringIndexOf x args = on_string-gives w built_ins.StringIndexOf x args
built_in-gives w built_ins.StringSlice x args = on_string-gives w built_ins.StringSlice x args
built_in-gives w built_ins.StringCharCodeAt x args = on_string-gives w built_ins.StringCharCodeAt x args
built_in-gives w f x args = on_array-gives w f x args

-- ---- the rows that give values

pub type_of-gives : (w : World) (n : List ℕ) (o : Option Found) → GivesValues (type_of_found w n o)
type_of-gives w n None = λ a. tt
type_of-gives w n (Some f) = result-gives (value_of_found n (Some f)) (λ v. make_text (type_text w v) give) (λ v a. tt)

updated_by-gives : (o : UpdateOperator) (r : Result) (k : Value → Value → Action)
    → ((x y : Value) → GivesValues (k x y))
    → GivesValues (updated_by o r k)
updated_by-gives o (a_value x) k h = result-gives (update_result o x) (k x) (h x)
updated_by-gives o (a_text us) k h = result-gives not_numbers give give-gives
updated_by-gives o (an_error class message) k h = fail-gives class message

pub update_row-gives : (w : World) (scope : Addr) (o : UpdateOperator) (prefix : Bool) (r : Reference) (vs : List Value)
    → GivesValues (update_row w scope o prefix r vs)
update_row-gives w scope o prefix r vs =
    updated_by-gives o (read_result w scope r vs) (λ old new. put w scope r vs new (give (update_value prefix old new)))
    (λ x y. put-gives w scope r vs y (give (update_value prefix x y)) tt)

pub made-gives : (o : Option (List Property)) → GivesValues (object_or_fail o)
made-gives None = fail-gives classes.TypeError (codes "Property key must be a string or a number")
made-gives (Some ps) = λ a. tt

pub function_row-gives : (s : State) (scope : Addr) (f : FunctionForm) → GivesValues (function_row s scope f)
function_row-gives s scope f =
    choose-goes IsValue ⊥ f.is_named (named_function f scope)
    (make (function_cell f f.name scope (receiver_of f (this_of s))) (λ a. give (values.Object a))) (λ a b. tt)
    (λ a. tt)
