-- Every row of the tables keeps configurations sound; so does every step, and every run.
use Rattle.std.proofs.Common.{◌≡◌, ℕ, ◌+◌, Bool, true, false, List, [], ◌∷◌, Option, None, Some, refl}
use Rattle.std.specs.Prelude.{codes}
use Rattle.js_tree_operators.specs.declared.operator.BinaryOperator.{BinaryOperator}
use Rattle.js_tree_operators.specs.declared.operator.UpdateOperator.{UpdateOperator}
use Rattle.js_heap.specs.declared.value.Addr.{Addr}
use Rattle.js_heap.specs.declared.value.Value.{Value}
use Rattle.js_heap.specs.declared.value.Value.TheVariants as values
use Rattle.js_heap.specs.declared.built_in.ErrorClass.TheVariants as classes
use Rattle.js_heap.specs.declared.cell.Cell.{Cell}
use Rattle.js_heap.specs.declared.cell.Cell.TheVariants as cells
use Rattle.js_heap.specs.declared.cell.Binding.{Binding}
use Rattle.js_heap.specs.declared.cell.Property.{Property}
use Rattle.js_heap.specs.declared.cell.ScopeKind.TheVariants as scopes
use Rattle.js_heap.specs.Keys.{put_property}
use Rattle.js_heap.specs.Cells.{kind_of}
use Rattle.js_heap.specs.World.{World, read_cell}
use Rattle.js_heap.specs.Worlds.{Leads, IsObjectKind, SoundValue, SoundScope, SoundIfSome, SoundValues, SoundProperties, SoundNames, SoundCell, IsSound, Later}
use Rattle.js_heap.specs.BuiltIns.{script_scope}
use Rattle.js_heap.proofs.SoundLemmas.{sound-value, sound_values, sound_if_some, sound_names, sound-scope, read-sound, put_sound}
use Rattle.js_semantics.specs.Terms.{Mark, Completion, throws, returns, breaks, continues, Reference, to_name, to_member, to_index, FunctionForm, Member, keyed, computed, Stage, first, doing, testing, body, updating, Form, script, enter, enter_debugger, enter_for, enter_for_of, block, scoped, frame, initialize, choose, both, either, loop, list_of, turn_of, body_of, break_, continue_, return_, throw_, catching, finishing, ending, this, read, typeof_name, unary, binary, comma, function, array, object, method, assign, compound, update, delete, call, call_of, Term, done, part, Terms, end, more, one, joined, dones, at_test, at_update, settled, settle}
use Rattle.js_heap.specs.Values.{type_text, is_truthy, key_of}
use Rattle.js_heap.specs.Operators.{not_numbers, binary_result, unary_result, update_result}
use Rattle.js_heap.specs.declared.computed.Computed.{Computed as Result}
use Rattle.js_heap.specs.declared.computed.Computed.TheVariants.{Value as a_value, Text as a_text, Error as an_error}
use Rattle.js_semantics.specs.State.{State, Action, go, make, give, make_text, fail}
use Rattle.js_semantics.specs.References.{Found, found, value_of_found, read_result, put}
use Rattle.js_semantics.specs.BuiltIns.{argument, last_of, is_array}
use Rattle.js_semantics.specs.Functions.{Program, function_cell, with_functions}
use Rattle.js_semantics.specs.Rows.{only, script_row, enter_row, block_row, copy_of, copied, loop_row, for_in, enter_for_row, enter_for_of_row, list_row, element_of, elements_of, body_part, turn_row, type_of_found, comma_row, compound_row, update_value, updated_by, update_row, assign_row, callee_this, callee_row, with_computed, properties_from, object_or_fail, object_row, ending_row, row, catch_row, taken}
use Rattle.js_semantics.specs.Sound.{SoundCompletion, SoundKept, SoundForm, SoundTerm, SoundTerms, SoundState, HasBuiltIns, SoundAction}
use Rattle.js_semantics.proofs.InvariantLemmas.{at_test-kept, at_update-kept, scoped-kept, chosen-kept, kept_or-kept, otherwise-kept, turn_or_end-kept, for_in-kept, body_part-kept}
use Rattle.js_semantics.proofs.SoundTerms.{later-trans, sound-term, sound-terms, sound_in, sound-kept-parts, sound-loop, joined-sound, dones-sound, settled-sound, settle-sound}
use Rattle.js_semantics.proofs.SoundValues.{SoundK, SoundResult, give-sound, leads-as, make_text-sound, make_object-sound, fail-sound, with_result-sound, binary-sound, unary-sound, update-sound, SoundFound, found-sound, value_of_found-sound, get-value, with_key-sound, read_result-sound, get-sound, put-sound, remove-sound}
use Rattle.js_semantics.proofs.SoundCalls.{argument-sound, last_of-sound, is-scope, this_of-sound, function-sound, functions-sound, names-sound, new_scope-sound, call-sound, choose_action}

-- ---- scripts, statements and blocks

script-sound : (p : Program) (s : State) (number : ℕ) (names : List Binding) (later : Terms)
    → SoundState p s
    → SoundTerms s.world later
    → SoundAction s.world (script_row number names later)
script-sound p s number names end h k = tt
script-sound p s number names (more t fs) h k =
    let b = h.built_ins in
    let w : World = s.world in (
      (tt, b.scripts),
      names-sound w script_scope names (with_functions script_scope fs (go (settle t)))
          (λ v l. functions-sound v script_scope fs (go (settle t)) (sound-scope w v l (Some script_scope) b.scripts)
          (λ u m. sound-term w u (later-trans w v u l m) (settle t) (settle-sound w t k.0))),
    )

enter-sound : (w : World) (node : ℕ) (later : Terms) → SoundTerms w later → SoundAction w (enter_row node later)
enter-sound w node end h = tt
enter-sound w node (more t ts) h = settle-sound w t h.0

-- a scope around a part
scoped-sound : (w : World) (t : Term) (a : Addr)
    → SoundTerm w t
    → SoundScope w (Some a)
    → SoundTerm w (settled (scoped a) (one t) end)
scoped-sound w t a h s = scoped-kept (sound_in w) (sound-kept-parts w) t a s h

block-sound : (w : World) (scope : Addr) (names : List Binding) (later : Terms)
    → SoundScope w (Some scope)
    → SoundNames w names
    → SoundTerms w later
    → SoundAction w (block_row scope names later)
block-sound w scope [] end s n h = tt
block-sound w scope (b ∷ bs) end s n h = tt
block-sound w scope [] (more t fs) s n h = settle-sound w t h.0
block-sound w scope (b ∷ bs) (more t fs) s n h =
    new_scope-sound w scopes.Block [] scope (b ∷ bs)
    (λ a. with_functions a fs (go (settled (scoped a) (one (settle t)) end))) s n
    (λ v l a e. functions-sound v a fs (go (settled (scoped a) (one (settle t)) end)) e
    (λ u m. scoped-sound u (settle t) a (sound-term w u (later-trans w v u l m) (settle t) (settle-sound w t h.0))
    (sound-scope v u m (Some a) e)))

-- ---- loops

copy-sound : (w : World) (o : Option Cell) → ((c : Cell) → o ≡ Some c → SoundCell w c) → SoundCell w (copy_of o)
copy-sound w None h = (tt, tt)
copy-sound w (Some (cells.Bindings kind n o ns)) h = h (cells.Bindings kind n o ns) refl
copy-sound w _ h = (tt, tt)

copy-scope : (w : World) (o : Option Cell) (a : Addr)
    → Leads (λ k. k ≡ kind_of (copy_of o)) (read_cell w a)
    → SoundScope w (Some a)
copy-scope w None a h = is-scope w scopes.Block [] None [] a h
copy-scope w (Some (cells.Bindings kind n o ns)) a h = is-scope w kind n o ns a h
copy-scope w _ a h = is-scope w scopes.Block [] None [] a h

copied-sound : (w : World)
    → IsSound w
    → (a : Addr) (k : Addr → Action)
    → ((v : World) → Later w v → (b : Addr) → SoundScope v (Some b) → SoundAction v (k b))
    → SoundAction w (copied w a k)
copied-sound w s a k t =
    (copy-sound w (read_cell w a) (λ c e. read-sound w a c e s), λ v b l e. t v l b (copy-scope v (read_cell w a) b e))

loop-sound : (w : World)
    → IsSound w
    → (stage : Stage) (scope : Option Addr) (vs : List Value) (later : Terms)
    → SoundScope w scope
    → SoundTerms w later
    → SoundAction w (loop_row w stage scope vs later)
loop-sound w s testing scope vs later h k =
    turn_or_end-kept (sound_in w) (sound-kept-parts w) (is_truthy w (only vs)) scope later (sound-loop w later) h k
loop-sound w s first (Some a) vs later h k =
    copied-sound w s a (λ b. go (at_test (Some b) later))
    (λ v l b e. at_test-kept (sound_in v) (sound-kept-parts v) (Some b) later (sound-loop v later) e
    (sound-terms w v l later k))
loop-sound w s body (Some a) vs later h k =
    copied-sound w s a (λ b. go (at_update (Some b) later))
    (λ v l b e. at_update-kept (sound_in v) (sound-kept-parts v) (Some b) later (sound-loop v later) e
    (sound-terms w v l later k))
loop-sound w s first None vs later h k = tt
loop-sound w s body None vs later h k = tt
loop-sound w s doing scope vs later h k = tt
loop-sound w s updating scope vs later h k = tt

enter_for-sound : (w : World) (scope : Addr) (node : ℕ) (constant : Bool) (names : List Binding) (later : Terms)
    → SoundScope w (Some scope)
    → SoundNames w names
    → SoundTerms w later
    → SoundAction w (enter_for_row scope node constant names later)
enter_for-sound w scope node constant names later s n h =
    new_scope-sound w scopes.Block [] scope names (λ a. go (for_in constant a later)) s n
    (λ v l a e. for_in-kept (sound_in v) (sound-kept-parts v) node constant names 0 a later tt e
    (sound_names w v l names n) (sound-terms w v l later h))

enter_for_of-sound : (w : World) (scope : Addr) (node : ℕ) (b : Binding) (later : Terms)
    → SoundScope w (Some scope)
    → SoundIfSome w b.value
    → SoundTerms w later
    → SoundAction w (enter_for_of_row scope node b later)
enter_for_of-sound w scope node b end s n h = tt
enter_for_of-sound w scope node b (more t ts) s n h =
    new_scope-sound w scopes.Block [] scope (b ∷ [])
    (λ a. go (part (list_of b) (one (settled (scoped a) (one t) end)) ts)) s (n, tt)
    (λ v l a e.
    (sound_if_some w v l b.value n, (scoped-sound v t a (sound-term w v l t h.0) e, tt), sound-terms w v l ts h.1))

list-sound : (w : World) (b : Binding) (x : Value) (later : Terms)
    → SoundIfSome w b.value
    → SoundValue w x
    → SoundTerms w later
    → SoundAction w (list_row w b x later)
list-sound w b x later n h k =
    choose_action w (is_array w x) (go (part (turn_of b 0) end (more (done x) later)))
    (fail classes.TypeError (codes "Value is not an array"))
    (n, tt, (h, k)) (fail-sound w classes.TypeError (codes "Value is not an array"))

element-sound : (w : World) (o : Option Cell) (i : ℕ)
    → ((c : Cell) → o ≡ Some c → SoundCell w c)
    → SoundIfSome w (element_of o i)
element-sound w None i h = tt
element-sound w (Some (cells.Array vs)) i h = get-value w vs i (h (cells.Array vs) refl)
element-sound w _ i h = tt

elements-sound : (w : World) → IsSound w → (later : Terms) (i : ℕ) → SoundIfSome w (elements_of w later i)
elements-sound w s (more (done (values.Object a)) ts) i =
    element-sound w (read_cell w a) i (λ c e. read-sound w a c e s)
elements-sound w s _ i = tt

turn_row-sound : (w : World) (scope : Addr) (b : Binding) (i : ℕ) (o : Option Value) (later : Terms)
    → SoundScope w (Some scope)
    → SoundIfSome w b.value
    → SoundIfSome w o
    → SoundTerms w later
    → SoundAction w (turn_row scope b i o later)
turn_row-sound w scope b i None later s n h k = tt
turn_row-sound w scope b i (Some x) later s n h k =
    new_scope-sound w scopes.Block [] scope (record b { value = Some x } ∷ [])
    (λ a. go (settled (body_of b (i + 1)) (one (settled (scoped a) (one (body_part later)) end)) later)) s (h, tt)
    (λ v l a e. settled-sound v (body_of b (i + 1)) (one (settled (scoped a) (one (body_part later)) end)) later
    (sound_if_some w v l b.value n) (
      scoped-sound v (body_part later) a
          (sound-term w v l (body_part later) (body_part-kept (sound_in w) (sound-kept-parts w) later k)) e,
      tt,
    )
    (sound-terms w v l later k))

-- ---- expressions

type_of-sound : (w : World) (n : List ℕ) (o : Option Found) → SoundFound w o → SoundAction w (type_of_found w n o)
type_of-sound w n None h = make_text-sound w (codes "undefined") give (give-sound w)
type_of-sound w n (Some f) h =
    with_result-sound w (value_of_found n (Some f)) (λ v. make_text (type_text w v) give)
    (value_of_found-sound w n (Some f) h)
    (λ v l x s. make_text-sound v (type_text w x) give (give-sound v))

comma-sound : (w : World) (later : Terms) → SoundTerms w later → SoundAction w (comma_row later)
comma-sound w end h = tt
comma-sound w (more t end) h = h.0
comma-sound w (more t (more u ts)) h = (tt, (h.0, tt), h.1)

compound-sound : (w : World)
    → IsSound w
    → HasBuiltIns w
    → (scope : Addr) (o : BinaryOperator) (r : Reference) (vs : List Value) (later : Terms)
    → SoundValues w vs
    → SoundTerms w later
    → SoundAction w (compound_row w scope o r vs later)
compound-sound w s b scope o r vs end h k = tt
compound-sound w s b scope o r vs (more e ts) h k =
    get-sound w s b scope r vs
    (λ old. go (part (assign r) (joined (dones vs) (one (part (binary o) (more (done old) (one e)) end))) end))
    (λ v l x q. (
      tt,
      joined-sound v (dones vs) (one (part (binary o) (more (done x) (one e)) end))
          (dones-sound v vs (sound_values w v l vs h)) ((tt, (q, (sound-term w v l e k.0, tt)), tt), tt),
      tt,
    ))

update_value-sound : (w : World) (b : Bool) (x y : Value)
    → SoundValue w x
    → SoundValue w y
    → SoundValue w (update_value b x y)
update_value-sound w true x y h k = k
update_value-sound w false x y h k = h

updated_by-sound : (w : World) (o : UpdateOperator) (r : Result) (k : Value → Value → Action)
    → SoundResult w r
    → ((x : Value) → SoundValue w x → SoundK w (k x))
    → SoundAction w (updated_by o r k)
updated_by-sound w o (a_value x) k h s = with_result-sound w (update_result o x) (k x) (update-sound w o x) (s x h)
updated_by-sound w o (a_text us) k h s = with_result-sound w not_numbers give tt (give-sound w)
updated_by-sound w o (an_error class message) k h s = fail-sound w class message

update_row-sound : (w : World)
    → IsSound w
    → HasBuiltIns w
    → (scope : Addr) (o : UpdateOperator) (prefix : Bool) (r : Reference) (vs : List Value)
    → SoundAction w (update_row w scope o prefix r vs)
update_row-sound w s b scope o prefix r vs =
    updated_by-sound w o (read_result w scope r vs)
    (λ old new. put w scope r vs new (give (update_value prefix old new))) (read_result-sound w s b scope r vs)
    (λ x q u m y t. put-sound w u scope r vs y (give (update_value prefix x y)) t
    (λ z n. sound-value u z n (update_value prefix x y) (update_value-sound u prefix x y (sound-value w u m x q) t)))

assign-sound : (w : World) (scope : Addr) (r : Reference) (vs : List Value)
    → SoundValues w vs
    → SoundAction w (assign_row w scope r vs)
assign-sound w scope r vs h =
    put-sound w w scope r vs (last_of vs) (give (last_of vs)) (last_of-sound w vs h)
    (λ v l. sound-value w v l (last_of vs) (last_of-sound w vs h))

callee_this-sound : (w : World) (r : Reference) (vs : List Value) → SoundValues w vs → SoundValue w (callee_this r vs)
callee_this-sound w (to_name n) vs h = tt
callee_this-sound w (to_member key) vs h = argument-sound w vs 0 h
callee_this-sound w to_index vs h = argument-sound w vs 0 h

callee-sound : (w : World)
    → IsSound w
    → HasBuiltIns w
    → (scope : Addr) (r : Reference) (m : Mark) (node : ℕ) (vs : List Value) (later : Terms)
    → SoundValues w vs
    → SoundTerms w later
    → SoundAction w (callee_row w scope r m node vs later)
callee-sound w s b scope r m node vs later h k =
    get-sound w s b scope r vs (λ f. go (part (call m node) (more (done (callee_this r vs)) (more (done f) later)) end))
    (λ v l x q.
    (tt, (sound-value w v l (callee_this r vs) (callee_this-sound w r vs h), (q, sound-terms w v l later k)), tt))

-- ---- object literals

abbrev SoundMade : World → Option (List Property) → Type 0
SoundMade w None = Unit {0}
SoundMade w (Some ps) = SoundProperties w ps

computed-sound : (w : World) (o : Option (List ℕ)) (ps : List Property) (x : Value)
    (k : List Property → Option (List Property))
    → SoundProperties w ps
    → SoundValue w x
    → ((qs : List Property) → SoundProperties w qs → SoundMade w (k qs))
    → SoundMade w (with_computed o ps x k)
computed-sound w None ps x k h q t = tt
computed-sound w (Some key) ps x k h q t = t (put_property ps key x) (put_sound w ps key x h q)

properties-sound : (w : World) (ps : List Property) (ms : List Member) (vs : List Value)
    → SoundProperties w ps
    → SoundValues w vs
    → SoundMade w (properties_from w ps ms vs)
properties-sound w ps [] vs h k = h
properties-sound w ps (keyed key ∷ ms) [] h k = h
properties-sound w ps (keyed key ∷ ms) (x ∷ vs) h k =
    properties-sound w (put_property ps key x) ms vs (put_sound w ps key x h k.0) k.1
properties-sound w ps (computed ∷ ms) [] h k = h
properties-sound w ps (computed ∷ ms) (x ∷ []) h k = h
properties-sound w ps (computed ∷ ms) (x ∷ y ∷ vs) h k =
    computed-sound w (key_of w x) ps y (λ qs. properties_from w qs ms vs) h k.1.0
    (λ qs q. properties-sound w qs ms vs q k.1.1)

made-sound : (w : World) (o : Option (List Property)) → SoundMade w o → SoundAction w (object_or_fail o)
made-sound w None h = fail-sound w classes.TypeError (codes "Property key must be a string or a number")
made-sound w (Some ps) h = make_object-sound w (cells.Object ps) h tt

is-object : (w : World) (f : FunctionForm) (name : List ℕ) (scope : Addr) (a : Addr)
    → Leads (λ k. k ≡ kind_of (function_cell f name scope values.Undefined)) (read_cell w a)
    → SoundValue w (values.Object a)
is-object w f name scope a h = leads-as IsObjectKind (function_cell f name scope values.Undefined) (read_cell w a) tt h

method-sound : (w : World) (scope : Addr) (ms : List Member) (vs : List Value) (f : FunctionForm) (now ts : Terms)
    → SoundScope w (Some scope)
    → SoundValues w vs
    → SoundTerms w now
    → SoundTerms w ts
    → (key : List ℕ) →
    SoundAction w
    (make (function_cell f key scope values.Undefined)
    (λ a. go (part (object ms) (joined (dones vs) (more (done (values.Object a)) now)) ts)))
method-sound w scope ms vs f now ts s h n k key = (
  (s, tt),
  λ v a l e. (
    tt,
    joined-sound v (dones vs) (more (done (values.Object a)) now) (dones-sound v vs (sound_values w v l vs h))
        (is-object v f key scope a e, sound-terms w v l now n),
    sound-terms w v l ts k,
  ),
)

object-sound : (w : World) (scope : Addr) (ms : List Member) (vs : List Value) (later : Terms)
    → SoundScope w (Some scope)
    → SoundValues w vs
    → SoundTerms w later
    → SoundAction w (object_row w scope ms vs later)
object-sound w scope ms vs end s h k = made-sound w (properties_from w [] ms vs) (properties-sound w [] ms vs tt h)
object-sound w scope ms vs (more (part (method f) now later) ts) s h k =
    with_key-sound w (key_of w (last_of vs))
    (λ key. make (function_cell f key scope values.Undefined)
    (λ a. go (part (object ms) (joined (dones vs) (more (done (values.Object a)) now)) ts)))
    (method-sound w scope ms vs f now ts s h k.0.1 k.1)
object-sound w scope ms vs (more _ ts) s h k = tt

-- ---- THE TABLE OF STEPS

ending-sound : (w : World) (o : Option Completion) → SoundKept w o → SoundAction w (ending_row o)
ending-sound w None h = tt
ending-sound w (Some c) h = h

pub row-sound : (p : Program) (s : State) (scope : Addr) (f : Form) (vs : List Value) (later : Terms)
    → SoundState p s
    → SoundScope s.world (Some scope)
    → SoundForm s.world f
    → SoundValues s.world vs
    → SoundTerms s.world later
    → SoundAction s.world (row p s scope f vs later)
row-sound p s scope (script number names) vs later h o n k t = script-sound p s number names later h t
row-sound p s scope (enter node) vs later h o n k t = enter-sound s.world node later t
row-sound p s scope (enter_debugger node) vs later h o n k t = enter-sound s.world node later t
row-sound p s scope (enter_for node constant names) vs later h o n k t =
    enter_for-sound s.world scope node constant names later o n t
row-sound p s scope (enter_for_of node b) vs later h o n k t = enter_for_of-sound s.world scope node b later o n t
row-sound p s scope (block names) vs later h o n k t = block-sound s.world scope names later o n t
row-sound p s scope (initialize name) vs later h o n k t = (argument-sound s.world vs 0 k, λ v l. tt)
row-sound p s scope choose vs later h o n k t =
    chosen-kept (sound_in s.world) (sound-kept-parts s.world) (is_truthy s.world (only vs)) later t
row-sound p s scope both vs later h o n k t =
    kept_or-kept (sound_in s.world) (sound-kept-parts s.world) (is_truthy s.world (only vs)) (only vs) later
    (argument-sound s.world vs 0 k) t
row-sound p s scope either vs later h o n k t =
    otherwise-kept (sound_in s.world) (sound-kept-parts s.world) (is_truthy s.world (only vs)) (only vs) later
    (argument-sound s.world vs 0 k) t
row-sound p s scope (loop stage a) vs later h o n k t = loop-sound s.world h.world stage a vs later n t
row-sound p s scope (list_of b) vs later h o n k t =
    list-sound s.world b (only vs) later n (argument-sound s.world vs 0 k) t
row-sound p s scope (turn_of b i) vs later h o n k t =
    turn_row-sound s.world scope b i (elements_of s.world later i) later o n (elements-sound s.world h.world later i) t
row-sound p s scope this vs later h o n k t = this_of-sound p s h
row-sound p s scope (read r) vs later h o n k t =
    get-sound s.world h.world h.built_ins scope r vs give (give-sound s.world)
row-sound p s scope (typeof_name x) vs later h o n k t =
    type_of-sound s.world x (found s.world scope x) (found-sound s.world h.world scope x)
row-sound p s scope (unary op) vs later h o n k t =
    with_result-sound s.world (unary_result s.world op (only vs)) give (unary-sound s.world s.world op (only vs))
    (give-sound s.world)
row-sound p s scope (binary op) vs later h o n k t =
    with_result-sound s.world (binary_result s.world op (argument vs 0) (argument vs 1)) give
    (binary-sound s.world s.world op (argument vs 0) (argument vs 1)) (give-sound s.world)
row-sound p s scope comma vs later h o n k t = comma-sound s.world later t
row-sound p s scope (function f) vs later h o n k t = function-sound p s scope f h o
row-sound p s scope array vs later h o n k t = make_object-sound s.world (cells.Array vs) k tt
row-sound p s scope (object ms) vs later h o n k t = object-sound s.world scope ms vs later o k t
row-sound p s scope (compound op r) vs later h o n k t =
    compound-sound s.world h.world h.built_ins scope op r vs later k t
row-sound p s scope (assign r) vs later h o n k t = assign-sound s.world scope r vs k
row-sound p s scope (update op prefix r) vs later h o n k t =
    update_row-sound s.world h.world h.built_ins scope op prefix r vs
row-sound p s scope (delete r) vs later h o n k t =
    remove-sound s.world s.world r vs (give (values.Bool true)) (λ v l. tt)
row-sound p s scope (call m node) vs later h o n k t = call-sound p s m vs h k
row-sound p s scope (call_of r m node) vs later h o n k t =
    callee-sound s.world h.world h.built_ins scope r m node vs later k t
row-sound p s scope (frame node a) vs later h o n k t = tt
row-sound p s scope return_ vs later h o n k t = argument-sound s.world vs 0 k
row-sound p s scope break_ vs later h o n k t = tt
row-sound p s scope continue_ vs later h o n k t = tt
row-sound p s scope (throw_ node) vs later h o n k t = argument-sound s.world vs 0 k
row-sound p s scope (ending kept) vs later h o n k t = ending-sound s.world kept n
row-sound p s scope _ vs later h o n k t = last_of-sound s.world vs k

-- ---- THE TABLE OF COMPLETIONS

catch-sound : (w : World) (scope : Addr) (n : Option (List ℕ)) (x : Value) (later : Terms)
    → SoundScope w (Some scope)
    → SoundValue w x
    → SoundTerms w later
    → SoundAction w (catch_row scope n x later)
catch-sound w scope None x end s h k = tt
catch-sound w scope (Some n) x end s h k = tt
catch-sound w scope None x (more t ts) s h k = settle-sound w t k.0
catch-sound w scope (Some n) x (more t ts) s h k =
    new_scope-sound w scopes.Catch [] scope (record { name = n; constant = false; value = Some x } ∷ [])
    (λ a. go (settled (scoped a) (one (settle t)) end)) s (h, tt)
    (λ v l a e. scoped-sound v (settle t) a (sound-term w v l (settle t) (settle-sound w t k.0)) e)

pub taken-sound : (w : World) (scope : Addr) (f : Form) (c : Completion) (later : Terms)
    → SoundScope w (Some scope)
    → SoundForm w f
    → SoundCompletion w c
    → SoundTerms w later
    → SoundAction w (taken scope f c later)
taken-sound w scope (catching n) (throws x m) later s g h k = catch-sound w scope n x later s h k
taken-sound w scope (catching n) (returns x) later s g h k = h
taken-sound w scope (catching n) breaks later s g h k = tt
taken-sound w scope (catching n) continues later s g h k = tt
taken-sound w scope finishing c later s g h k = settled-sound w (ending (Some c)) later end h k tt
taken-sound w scope (frame node a) (returns x) later s g h k = h
taken-sound w scope (frame node a) (throws x m) later s g h k = h
taken-sound w scope (frame node a) breaks later s g h k = h
taken-sound w scope (frame node a) continues later s g h k = h
taken-sound w scope (loop body a) breaks later s g h k = tt
taken-sound w scope (loop body a) continues later s g h k = settled-sound w (loop body a) end later g tt k
taken-sound w scope (loop body a) (throws x m) later s g h k = h
taken-sound w scope (loop body a) (returns x) later s g h k = h
taken-sound w scope (body_of b i) breaks later s g h k = tt
taken-sound w scope (body_of b i) continues later s g h k = settled-sound w (body_of b i) end later g tt k
taken-sound w scope (body_of b i) (throws x m) later s g h k = h
taken-sound w scope (body_of b i) (returns x) later s g h k = h
taken-sound w scope f c later s g h k = h
