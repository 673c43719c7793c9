-- The table of steps: one row for each form whose parts have their values, and one for each completion that a form
-- takes.
use Rattle.std.specs.Prelude.{ℕ, ◌+◌, Bool, true, false, List, [], ◌∷◌, Option, Some, None, slice_get, codes, if◌then◌else◌}
use Rattle.js_tree_operators.specs.declared.operator.BinaryOperator.{BinaryOperator}
use Rattle.js_tree_operators.specs.declared.operator.UpdateOperator.{UpdateOperator}
use Rattle.js_heap.specs.declared.value.Addr.{Addr}
use Rattle.js_heap.specs.declared.value.Value.{Value}
use Rattle.js_heap.specs.declared.value.Value.TheVariants as values
use Rattle.js_heap.specs.declared.built_in.ErrorClass.TheVariants as classes
use Rattle.js_heap.specs.declared.cell.Binding.{Binding}
use Rattle.js_heap.specs.declared.cell.Property.{Property}
use Rattle.js_heap.specs.declared.cell.ScopeKind.TheVariants as scopes
use Rattle.js_heap.specs.declared.cell.Cell.{Cell}
use Rattle.js_heap.specs.declared.cell.Cell.TheVariants as cells
use Rattle.js_heap.specs.Keys.{put_property}
use Rattle.js_heap.specs.World.{World, read_cell}
use Rattle.js_heap.specs.BuiltIns.{script_scope}
use Rattle.js_semantics.specs.Terms.{Mark, start, Completion, throws, returns, breaks, continues, Reference, to_name, Member, keyed, computed, Stage, first, testing, body, Form, script, enter, enter_debugger, enter_for, enter_for_of, block, scoped, frame, initialize, choose, both, either, loop, list_of, turn_of, body_of, break_, continue_, return_, throw_, catching, finishing, ending, this, read, typeof_name, unary, binary, comma, function, array, object, method, assign, compound, update, delete, call, call_of, Term, done, part, Terms, end, more, one, joined, dones, at_test, at_update, at_body, settled, settle, script_source, beginning}
use Rattle.js_heap.specs.Values.{type_text, is_truthy, key_of}
use Rattle.js_semantics.specs.State.{State, Action, go, raise, leave, make, write, set_here, pop_frame, give, make_text, fail, this_of, Frame, push_frame}
use Rattle.js_heap.specs.Operators.{not_numbers, binary_result, unary_result, update_result}
use Rattle.js_heap.specs.declared.computed.Computed.{Computed as Result}
use Rattle.js_heap.specs.declared.computed.Computed.TheVariants.{Value as a_value, Text as a_text, Error as an_error}
use Rattle.js_semantics.specs.References.{Found, found, value_of_found, with_result, with_key, read_result, get, put, remove}
use Rattle.js_semantics.specs.BuiltIns.{argument, last_of, is_array}
use Rattle.js_semantics.specs.Functions.{Program, function_cell, function_row, with_functions, new_scope, with_names, call_row}
use Rattle.js_heap.specs.declared.change.Change.TheVariants as changes

-- the value of a form's only part; undefined where it has none
abbrev pub only : List Value → Value
only vs = argument vs 0

-- ---- scripts, statements and blocks

-- the bottom frame of a script, at its beginning
abbrev pub script_frame : ℕ → Frame
script_frame number =
    record {
      function = None;
      source = script_source number;
      receiver = values.Undefined;
      scope = script_scope;
      here = beginning;
    }

-- a script: it is the bottom frame's from now on; its names, its functions, then its statements (16.1.7)
abbrev pub script_row : ℕ → List Binding → Terms → Action
script_row number names (more statements functions) =
    pop_frame
    (push_frame (script_frame number)
    (with_names script_scope names (with_functions script_scope functions (go (settle statements)))))
script_row number names end = give values.Undefined

-- an untouched statement, or an arrow's expression body (14.1; this project's own)
abbrev pub enter_row : ℕ → Terms → Action
enter_row node (more entered ts) = set_here (start node) (go (settle entered))
enter_row node end = give values.Undefined

-- a block: a scope where it declares a name, with its functions (14.2.2)
abbrev pub block_row : Addr → List Binding → Terms → Action
block_row scope [] (more statements functions) = go (settle statements)
block_row scope (b ∷ bs) (more statements functions) =
    new_scope scopes.Block [] scope (b ∷ bs)
    (λ s. with_functions s functions (go (settled (scoped s) (one (settle statements)) end)))
block_row scope names end = give values.Undefined

-- a declarator; the initialiser may be absent (14.3.1.2)
abbrev pub initialize_row : Addr → List ℕ → List Value → Action
initialize_row scope name vs = write scope (changes.Bind name (only vs)) (give values.Undefined)

-- ---- tests

-- the branch that a test chooses; undefined where it chooses an absent one
abbrev pub chosen : Bool → Terms → Term
chosen true (more a ts) = settle a
chosen false (more a (more b ts)) = settle b
chosen _ _ = done values.Undefined

-- `if` and `? :` (14.6.2, 13.14.1)
abbrev pub choose_row : World → Value → Terms → Action
choose_row w v later = go (chosen (is_truthy w v) later)

-- what `&&` comes to: its right side where the left one is true, else the value of the left one
abbrev pub kept_or : Bool → Value → Terms → Term
kept_or true v (more b ts) = b
kept_or _ v later = done v

-- `&&` and `||` (13.13.1): the value itself, or the other side
abbrev pub both_row : World → Value → Terms → Action
both_row w v later = go (kept_or (is_truthy w v) v later)

-- what `||` comes to: its right side where the left one is false, else the value of the left one
abbrev pub otherwise : Bool → Value → Terms → Term
otherwise false v (more b ts) = b
otherwise _ v later = done v

-- `||` (13.13.1)
abbrev pub either_row : World → Value → Terms → Action
either_row w v later = go (otherwise (is_truthy w v) v later)

-- ---- loops

-- a test that is a value: a turn, or the loop's end (14.7)
abbrev pub turn_or_end : Bool → Option Addr → Terms → Term
turn_or_end true scope later = at_body scope later
turn_or_end false scope later = done values.Undefined

-- a new scope with the present values (14.7.4.4); the scope around the loop is the outer one of each
abbrev pub copy_of : Option Cell → Cell
copy_of (Some (cells.Bindings kind name outer names)) = cells.Bindings kind name outer names
copy_of _ = cells.Bindings scopes.Block [] None []

-- makes a copy of the scope at an address
abbrev pub copied : World → Addr → (Addr → Action) → Action
copied w a k = make (copy_of (read_cell w a)) k

-- a loop's step: its test chooses, or a `for` with `let` gets the scope of its next turn
abbrev pub loop_row : World → Stage → Option Addr → List Value → Terms → Action
loop_row w testing scope vs later = go (turn_or_end (is_truthy w (only vs)) scope later)
loop_row w first (Some a) vs later = copied w a (λ b. go (at_test (Some b) later))
loop_row w body (Some a) vs later = copied w a (λ b. go (at_update (Some b) later))
loop_row w stage scope vs later = give values.Undefined

-- entering a `for` with names makes their scope (14.7.4.2): `let` has a scope of its own for each turn
abbrev pub for_in : Bool → Addr → Terms → Term
for_in true s (more inits later) = part (scoped s) (one (settled (loop first None) (one (settle inits)) later)) end
for_in false s (more inits later) = settled (loop first (Some s)) (one (settle inits)) later
for_in constant s end = done values.Undefined

-- an untouched `for` with `let` or `const`: its names' scope, then its initialisers
abbrev pub enter_for_row : Addr → ℕ → Bool → List Binding → Terms → Action
enter_for_row scope node constant names later =
    set_here (start node) (new_scope scopes.Block [] scope names (λ s. go (for_in constant s later)))

-- entering a `for .. of` makes a scope in which its list is evaluated (14.7.5.6)
abbrev pub enter_for_of_row : Addr → ℕ → Binding → Terms → Action
enter_for_of_row scope node b (more list later) =
    set_here (start node)
    (new_scope scopes.Block [] scope (b ∷ [])
    (λ s. go (part (list_of b) (one (settled (scoped s) (one list) end)) later)))
enter_for_of_row scope node b end = give values.Undefined

-- `for .. of` with its value is for arrays (this project's own; 14.7.5.6 takes iterables)
abbrev pub list_row : World → Binding → Value → Terms → Action
list_row w b v later =
    if is_array w v then go (part (turn_of b 0) end (more (done v) later)) else fail classes.TypeError
    (codes "Value is not an array")

-- the element of an index, if the cell is an array that long
abbrev pub element_of : Option Cell → ℕ → Option Value
element_of (Some (cells.Array vs)) i = slice_get vs i
element_of _ i = None

-- the element of an index of the array that a `for .. of` goes through
abbrev pub elements_of : World → Terms → ℕ → Option Value
elements_of w (more (done (values.Object a)) ts) i = element_of (read_cell w a) i
elements_of w _ i = None

-- the body of a `for .. of`, behind its list
abbrev pub body_part : Terms → Term
body_part (more list (more statement ts)) = statement
body_part _ = done values.Undefined

-- a turn: the next element below the present length in a new scope, or the loop's end (14.7.5.7)
abbrev pub turn_row : Addr → Binding → ℕ → Option Value → Terms → Action
turn_row scope b i None later = give values.Undefined
turn_row scope b i (Some v) later =
    new_scope scopes.Block [] scope (record b { value = Some v } ∷ [])
    (λ s. go (settled (body_of b (i + 1)) (one (settled (scoped s) (one (body_part later)) end)) later))

-- ---- expressions

-- `typeof` of a name that isn't defined (13.5.3.1)
abbrev pub type_of_found : World → List ℕ → Option Found → Action
type_of_found w name None = make_text (codes "undefined") give
type_of_found w name (Some f) = with_result (value_of_found name (Some f)) (λ v. make_text (type_text w v) give)

-- a comma after a value (13.16.1)
abbrev pub comma_row : Terms → Action
comma_row (more t end) = go t
comma_row (more t (more u ts)) = go (part comma (one t) (more u ts))
comma_row end = give values.Undefined

-- `x op= e` reads the old value (13.15.2)
abbrev pub compound_row : World → Addr → BinaryOperator → Reference → List Value → Terms → Action
compound_row w scope o r vs (more e ts) =
    get w scope r vs
    (λ old. go (part (assign r) (joined (dones vs) (one (part (binary o) (more (done old) (one e)) end))) end))
compound_row w scope o r vs end = give values.Undefined

-- `++` and `--` (13.4)
abbrev pub update_value : Bool → Value → Value → Value
update_value prefix old new = if prefix then new else old

-- what is read is no value of the step, so a text without a cell gets none: it is no number
abbrev pub updated_by : UpdateOperator → Result → (Value → Value → Action) → Action
updated_by o (a_value old) k = with_result (update_result o old) (k old)
updated_by o (a_text us) k = with_result not_numbers give
updated_by o (an_error class message) k = fail class message

-- `++` and `--`: the old value is read, the new one written, and one of the two is the step's value
abbrev pub update_row : World → Addr → UpdateOperator → Bool → Reference → List Value → Action
update_row w scope o prefix r vs =
    updated_by o (read_result w scope r vs) (λ old new. put w scope r vs new (give (update_value prefix old new)))

-- `=`: the last value is the one written (13.15.2)
abbrev pub assign_row : World → Addr → Reference → List Value → Action
assign_row w scope r vs = put w scope r vs (last_of vs) (give (last_of vs))

-- the callee of a call is read before its arguments; its object is `this` (13.3.6)
abbrev pub callee_this : Reference → List Value → Value
callee_this (to_name n) vs = values.Undefined
callee_this r vs = only vs

-- a callee that is a reference is read, and the call has it with its `this`
abbrev pub callee_row : World → Addr → Reference → Mark → ℕ → List Value → Terms → Action
callee_row w scope r place node vs later =
    get w scope r vs (λ f. go (part (call place node) (more (done (callee_this r vs)) (more (done f) later)) end))

-- ---- object literals (13.2.5)

-- the properties in order; None where a computed key is no key
abbrev pub with_computed : Option (List ℕ)
    → List Property
    → Value
    → (List Property → Option (List Property))
    → Option (List Property)
with_computed None ps v k = None
with_computed (Some key) ps v k = k (put_property ps key v)

-- some properties with those of the members behind them; None where a computed key is no key
abbrev pub properties_from : World → List Property → List Member → List Value → Option (List Property)
properties_from w ps (keyed key ∷ ms) (v ∷ vs) = properties_from w (put_property ps key v) ms vs
properties_from w ps (computed ∷ ms) (k ∷ v ∷ vs) = with_computed (key_of w k) ps v (λ qs. properties_from w qs ms vs)
properties_from w ps ms vs = Some ps

-- a new object of these properties, or the error of what is no key
abbrev pub object_or_fail : Option (List Property) → Action
object_or_fail None = fail classes.TypeError (codes "Property key must be a string or a number")
object_or_fail (Some ps) = make (cells.Object ps) (λ a. give (values.Object a))

-- a method with a computed key is made once the key before it has its value, and is named by it (15.4.4)
abbrev pub object_row : World → Addr → List Member → List Value → Terms → Action
object_row w scope ms vs end = object_or_fail (properties_from w [] ms vs)
object_row w scope ms vs (more (part (method f) now later) ts) =
    with_key (key_of w (last_of vs)) (λ key. make (function_cell f key scope values.Undefined)
    (λ a. go (part (object ms) (joined (dones vs) (more (done (values.Object a)) now)) ts)))
object_row w scope ms vs (more t ts) = give values.Undefined

-- ---- the end of a finally, of a body

-- the completion that a `finally` kept travels on (14.15.3)
abbrev pub ending_row : Option Completion → Action
ending_row None = give values.Undefined
ending_row (Some c) = leave c

-- ---- THE TABLE OF STEPS

-- what the step of a form does, from the values of its parts and the parts that it keeps
abbrev pub row : Program → State → Addr → Form → List Value → Terms → Action
row p s scope (script number names) vs later = script_row number names later
row p s scope (enter node) vs later = enter_row node later
row p s scope (enter_debugger node) vs later = enter_row node later
row p s scope (enter_for node constant names) vs later = enter_for_row scope node constant names later
row p s scope (enter_for_of node b) vs later = enter_for_of_row scope node b later
row p s scope (block names) vs later = block_row scope names later
row p s scope (initialize name) vs later = initialize_row scope name vs
row p s scope choose vs later = choose_row s.world (only vs) later
row p s scope both vs later = both_row s.world (only vs) later
row p s scope either vs later = either_row s.world (only vs) later
row p s scope (loop stage a) vs later = loop_row s.world stage a vs later
row p s scope (list_of b) vs later = list_row s.world b (only vs) later
row p s scope (turn_of b i) vs later = turn_row scope b i (elements_of s.world later i) later
row p s scope this vs later = give (this_of s)
row p s scope (read r) vs later = get s.world scope r vs give
row p s scope (typeof_name n) vs later = type_of_found s.world n (found s.world scope n)
row p s scope (unary o) vs later = with_result (unary_result s.world o (only vs)) give
row p s scope (binary o) vs later = with_result (binary_result s.world o (argument vs 0) (argument vs 1)) give
row p s scope comma vs later = comma_row later
row p s scope (function f) vs later = function_row s scope f
row p s scope array vs later = make (cells.Array vs) (λ a. give (values.Object a))
row p s scope (object ms) vs later = object_row s.world scope ms vs later
row p s scope (compound o r) vs later = compound_row s.world scope o r vs later
row p s scope (assign r) vs later = assign_row s.world scope r vs
row p s scope (update o prefix r) vs later = update_row s.world scope o prefix r vs
row p s scope (delete r) vs later = remove s.world r vs (give (values.Bool true))
row p s scope (call place node) vs later = call_row p s place vs
row p s scope (call_of r place node) vs later = callee_row s.world scope r place node vs later
row p s scope (frame node a) vs later = pop_frame (give values.Undefined)
row p s scope return_ vs later = leave (returns (only vs))
row p s scope break_ vs later = leave breaks
row p s scope continue_ vs later = leave continues
row p s scope (throw_ node) vs later = set_here (start node) (raise (only vs))
row p s scope (ending kept) vs later = ending_row kept
row p s scope _ vs later = give (last_of vs)

-- ---- THE TABLE OF COMPLETIONS

-- a throw reaches a catch, which has a scope where it has a name (14.15.2, 14.15.3)
abbrev pub catch_row : Addr → Option (List ℕ) → Value → Terms → Action
catch_row scope None v (more handler ts) = go (settle handler)
catch_row scope (Some n) v (more handler ts) =
    new_scope scopes.Catch [] scope (record { name = n; constant = false; value = Some v } ∷ [])
    (λ s. go (settled (scoped s) (one (settle handler)) end))
catch_row scope n v end = give values.Undefined

-- what a form makes of a completion that travels outward; every other lets it pass
abbrev pub taken : Addr → Form → Completion → Terms → Action
taken scope (catching n) (throws v place) later = catch_row scope n v later
taken scope finishing c later = go (settled (ending (Some c)) later end)
taken scope (frame node a) (returns v) later = pop_frame (give v)
taken scope (frame node a) c later = pop_frame (leave c)
taken scope (loop body a) breaks later = give values.Undefined
taken scope (loop body a) continues later = go (settled (loop body a) end later)
taken scope (body_of b i) breaks later = give values.Undefined
taken scope (body_of b i) continues later = go (settled (body_of b i) end later)
taken scope f c later = leave c
