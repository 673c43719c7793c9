-- Lemmas on `++` and `--`.
use Rattle.std.proofs.Common.{◌≡◌, ℕ, ◌<◌, ◌≤◌, ◌^◌, Bool, true, false, List, [], ◌∷◌, length, get_or, Option, Some, None, refl, sym, ap, ◌∙◌, subst, arith, if◌then◌else◌}
use Rattle.std.specs.Prelude.{Result, Ok, Err, IsErrAnd, pos, ℤ, ◌+ℤ◌, ◌-ℤ◌, nat_abs, nat_lt, IfSome}
use Rattle.js_tree_operators.specs.declared.operator.BinaryOperator.{BinaryOperator}
use Rattle.js_tree_operators.specs.declared.operator.BinaryOperator.TheVariants as binaries
use Rattle.js_tree_operators.specs.declared.operator.UpdateOperator.{UpdateOperator}
use Rattle.js_tree_operators.specs.declared.operator.UpdateOperator.TheVariants as updates
use Rattle.js_heap.specs.declared.value.Value.{Value}
use Rattle.js_heap.specs.declared.value.Value.TheVariants as values
use Rattle.js_heap.specs.declared.built_in.ErrorClass.{ErrorClass}
use Rattle.js_heap.specs.declared.value.Addr.{Addr}
use Rattle.js_heap.specs.declared.change.Change.TheVariants as changes
use Rattle.js_heap.specs.declared.computed.Written.TheVariants.{Change as a_change}
use Rattle.js_heap.specs.declared.computed.Computed.{Computed}
use Rattle.js_heap.specs.declared.computed.Computed.TheVariants.{Value as a_value, Text as a_text, Error as an_error}
use Rattle.js_heap.specs.Operators.{not_numbers, not_safe, safe, on_numbers, numeric, binary_result, update_result}
use Rattle.js_heap.specs.Properties.{property_of, property_written}
use Rattle.js_heap.specs.Values.{a_number, key_of}
use Rattle.js_heap.specs.World.{World}
use Rattle.js_semantics.specs.State.{State, with_world, Move, goes, went, Action, give, fail, write}
use Rattle.js_semantics.specs.References.{Found, found, not_defined, not_initialized, value_of_found, value_or_uninitialized, name_written, with_result, with_written, with_key, keyed_result}
use Rattle.js_semantics.specs.Rows.{updated_by, update_value}
use Rattle.js_semantics.specs.Terms.{Term, done}
use Rattle.js_machine_actions.specs.declared.action_end.ActionEnd.{ActionEnd}
use Rattle.js_machine_actions.specs.Flow.{performed, Ends, Yields, Passes, Gives}
use Rattle.js_machine_actions.specs.References.{index_written}
use Rattle.js_machine_engine.specs.declared.reduced.Reduced.{Reduced}
use Rattle.js_machine_rows.specs.Does.{Replies, replied_with, stopped}
use Rattle.js_machine_rows.specs.declared.updates.Update.{Update}
use Rattle.js_machine_rows.specs.declared.updates.Update.TheVariants.{To, Fails}
use Rattle.js_machine_rows.specs.Updates.{on_update, property_updated, keyed_updated, index_updated, member_updated, element_updated, old_updated, name_updated}
use Rattle.js_machine_rows.proofs.PropertyLemmas.{passes-change}
use Rattle.js_machine_rows.proofs.AnswerLemmas.{replies-by, passes-reply}

-- ---- steps

no_world : World
no_world = record { base = []; scratch = []; start = None; room = record { cells = 0; units = 0 } }

pub step-up : (o : UpdateOperator) (old : Value) (z : ℤ) (found : Option Value)
    → old ≡ values.Number z
    → o ≡ updates.Increment
    → ((w : World) → IfSome found (λ v. binary_result w binaries.Add old (values.Number (pos 1)) ≡ a_value v))
    → IfSome found (λ new. update_result o old ≡ a_value new)
step-up o old z found e f h =
    let P : Value
    → Type 0 = λ x. IfSome found (λ v. binary_result no_world binaries.Add x (values.Number (pos 1)) ≡ a_value v) in
    let Q : Value → Type 0 = λ x. IfSome found (λ new. update_result updates.Increment x ≡ a_value new) in
    let R : UpdateOperator → Type 0 = λ x. IfSome found (λ new. update_result x old ≡ a_value new) in
    subst R (sym f) (subst Q (sym e) (subst P e (h no_world)))

pub step-down : (o : UpdateOperator) (old : Value) (z : ℤ) (found : Option Value)
    → old ≡ values.Number z
    → o ≡ updates.Decrement
    → ((w : World) → IfSome found (λ v. binary_result w binaries.Subtract old (values.Number (pos 1)) ≡ a_value v))
    → IfSome found (λ new. update_result o old ≡ a_value new)
step-down o old z found e f h =
    let P : Value
    → Type 0 = λ x. IfSome found (λ v. binary_result no_world binaries.Subtract x (values.Number (pos 1)) ≡ a_value v)
    in
    let Q : Value → Type 0 = λ x. IfSome found (λ new. update_result updates.Decrement x ≡ a_value new) in
    let R : UpdateOperator → Type 0 = λ x. IfSome found (λ new. update_result x old ≡ a_value new) in
    subst R (sym f) (subst Q (sym e) (subst P e (h no_world)))

-- ---- what is known of a value and its step

updated_is : (o : UpdateOperator) (x : Computed) (old new : Value) (k : Value → Value → Action)
    → x ≡ a_value old
    → update_result o old ≡ a_value new
    → updated_by o x k ≡ k old new
updated_is o x old new k h g = ap (λ y. updated_by o y k) h ∙ ap (λ y. with_result y (k old)) g

pub updated-reply : (ts : List (List ℕ)) (o : UpdateOperator) (x : Computed) (writing : Value → Action → Action)
    (prefix : Bool) (old new given : Value) (v : World) (r : Result (Unit {0}) ActionEnd) (w : World) (q : Reduced)
    → x ≡ a_value old
    → update_result o old ≡ a_value new
    → given ≡ update_value prefix old new →
    Passes (writing new) v r w
    → q ≡ replied_with r given
    → Replies ts (updated_by o x (λ a b. writing b (give (update_value prefix a b)))) v q w
updated-reply ts o x writing prefix old new given v r w q h g i p e =
    let P : Action → Type 0 = λ a. Replies ts a v q w in
    let Q : Value → Type 0 = λ u. Replies ts (writing new (give u)) v q w in
    subst P (sym (updated_is o x old new (λ a b. writing b (give (update_value prefix a b))) h g))
    (subst Q i (passes-reply ts (writing new) given v r w q p e))

pub member-updated : (ts : List (List ℕ)) (o : UpdateOperator) (object : Value) (key : List ℕ) (prefix : Bool)
    (old new given : Value) (v : World) (r : Result (Unit {0}) ActionEnd) (w : World) (q : Reduced)
    → property_of v object key ≡ a_value old
    → update_result o old ≡ a_value new
    → given ≡ update_value prefix old new →
    Passes (with_written (property_written v object key new)) v r w
    → q ≡ replied_with r given
    → Replies ts (property_updated v o prefix object key) v q w
member-updated ts o object key prefix old new given v r w q h g i p e =
    updated-reply ts o (property_of v object key) (λ b. with_written (property_written v object key b))
    prefix old new given v r w q h g i p e

keyed_by : (ts : List (List ℕ)) (o : UpdateOperator) (object : Value) (k : Option (List ℕ)) (prefix : Bool)
    (old new given : Value) (v : World) (r : Result (Unit {0}) ActionEnd) (w : World) (q : Reduced)
    → keyed_result k (property_of v object) ≡ a_value old
    → update_result o old ≡ a_value new
    → given ≡ update_value prefix old new →
    Passes (λ c. with_key k (λ key. with_written (property_written v object key new) c)) v r w
    → q ≡ replied_with r given
    → Replies ts (keyed_updated v o prefix object k) v q w
keyed_by ts o object None prefix old new given v r w q h g i p e = cc
keyed_by ts o object (Some key) prefix old new given v r w q h g i p e =
    member-updated ts o object key prefix old new given v r w q h g i p e

pub index-updated : (ts : List (List ℕ)) (o : UpdateOperator) (object index : Value) (prefix : Bool)
    (old new given : Value) (v : World) (r : Result (Unit {0}) ActionEnd) (w : World) (q : Reduced)
    → keyed_result (key_of v index) (property_of v object) ≡ a_value old
    → update_result o old ≡ a_value new
    → given ≡ update_value prefix old new →
    Passes (index_written v object index new) v r w
    → q ≡ replied_with r given
    → Replies ts (index_updated v o prefix object index) v q w
index-updated ts o object index prefix old new given v r w q h g i p e =
    keyed_by ts o object (key_of v index) prefix old new given v r w q h g i p e

-- ---- by the first values

pub first-updated : (ts : List (List ℕ)) (o : UpdateOperator) (prefix : Bool) (vs : List Value) (key : List ℕ)
    (v : World) (q : Reduced) (w : World)
    → 1 ≤ length vs
    → Replies ts (property_updated v o prefix (get_or vs 0 values.Undefined) key) v q w
    → Replies ts (member_updated v o prefix vs key) v q w
first-updated ts o prefix [] key v q w l h = absurd (omega (arith, l))
first-updated ts o prefix (object ∷ vs) key v q w l h = h

pub second-updated : (ts : List (List ℕ)) (o : UpdateOperator) (prefix : Bool) (vs : List Value) (v : World)
    (q : Reduced) (w : World)
    → 2 ≤ length vs
    → Replies ts (index_updated v o prefix (get_or vs 0 values.Undefined) (get_or vs 1 values.Undefined)) v q w
    → Replies ts (element_updated v o prefix vs) v q w
second-updated ts o prefix [] v q w l h = absurd (omega (arith, l))
second-updated ts o prefix (object ∷ []) v q w l h = absurd (omega (arith, l))
second-updated ts o prefix (object ∷ index ∷ vs) v q w l h = h

-- undefined is no number
undefined_updated : (o : UpdateOperator) (k : Value → Action)
    → with_result (update_result o values.Undefined) k ≡ with_result not_numbers give
undefined_updated updates.Increment k = refl
undefined_updated updates.Decrement k = refl

unfit : (ts : List (List ℕ)) (o : UpdateOperator) (v : World) (x : ActionEnd) (w : World) (q : Reduced)
    → Ends (with_result not_numbers give) v x w
    → q ≡ stopped x
    → Replies ts (updated_by o (a_value values.Undefined) (λ old new. give values.Undefined)) v q w
unfit ts o v x w q h e =
    let P : Action → Type 0 = λ a. Replies ts a v q w in
    subst P (sym (undefined_updated o (λ new. give values.Undefined)))
    (replies-by ts (with_result not_numbers give) v (Err x) w q h e)

pub no-first-updated : (ts : List (List ℕ)) (o : UpdateOperator) (prefix : Bool) (vs : List Value) (key : List ℕ)
    (v : World) (x : ActionEnd) (w : World) (q : Reduced)
    → length vs < 1
    → Ends (with_result not_numbers give) v x w
    → q ≡ stopped x
    → Replies ts (member_updated v o prefix vs key) v q w
no-first-updated ts o prefix [] key v x w q l h e = unfit ts o v x w q h e
no-first-updated ts o prefix (object ∷ vs) key v x w q l h e = absurd (omega (arith, l))

pub no-second-updated : (ts : List (List ℕ)) (o : UpdateOperator) (prefix : Bool) (vs : List Value) (v : World)
    (x : ActionEnd) (w : World) (q : Reduced)
    → length vs < 2
    → Ends (with_result not_numbers give) v x w
    → q ≡ stopped x
    → Replies ts (element_updated v o prefix vs) v q w
no-second-updated ts o prefix [] v x w q l h e = unfit ts o v x w q h e
no-second-updated ts o prefix (object ∷ []) v x w q l h e = unfit ts o v x w q h e
no-second-updated ts o prefix (object ∷ index ∷ vs) v x w q l h e = absurd (omega (arith, l))

-- ---- an update is no text

no_text_by : (b : Bool) (z : ℤ) (us : List ℕ) → (if b then a_number z else not_safe) ≡ a_text us → ⊥
no_text_by true z us h = cc
no_text_by false z us h = cc

numeric_no_text : (o : BinaryOperator) (f : ℤ → ℤ → ℤ) (v : Value) (us : List ℕ)
    → ((y z : ℤ) → on_numbers o y z ≡ safe (f y z))
    → numeric o v (values.Number (pos 1)) ≡ a_text us
    → ⊥
numeric_no_text o f values.Undefined us i h = cc
numeric_no_text o f values.Null us i h = cc
numeric_no_text o f (values.Bool b) us i h = cc
numeric_no_text o f (values.Number y) us i h =
    no_text_by (nat_lt (nat_abs (f y (pos 1))) (2 ^ 53)) (f y (pos 1)) us (sym (i y (pos 1)) ∙ h)
numeric_no_text o f (values.Text a) us i h = cc
numeric_no_text o f (values.Object a) us i h = cc

pub no-text : (o : UpdateOperator) (v : Value) (us : List ℕ) → update_result o v ≡ a_text us → ⊥
no-text updates.Increment v us h = numeric_no_text binaries.Add (λ y z. y +ℤ z) v us (λ y z. refl) h
no-text updates.Decrement v us h = numeric_no_text binaries.Subtract (λ y z. y -ℤ z) v us (λ y z. refl) h

-- ---- names

bound_is : (o : UpdateOperator) (name : List ℕ) (x : Option Value) (k : Value → Value → Action)
    → updated_by o (value_or_uninitialized name x) k ≡ with_result (value_or_uninitialized name x)
    (λ old. with_result (update_result o old) (k old))
bound_is o name None k = refl
bound_is o name (Some u) k = refl

-- what a name has is no text
name_is : (o : UpdateOperator) (name : List ℕ) (p : Option Found) (k : Value → Value → Action)
    → updated_by o (value_of_found name p) k ≡ with_result (value_of_found name p)
    (λ old. with_result (update_result o old) (k old))
name_is o name None k = refl
name_is o name (Some f) k = bound_is o name f.binding.value k

pub old-name : (o : UpdateOperator) (prefix : Bool) (name : List ℕ) (p : Option Found) (old : Value) (v : World)
    (r : Result Value ActionEnd) (w : World)
    → value_of_found name p ≡ a_value old
    → Gives (old_updated o prefix name p old) v r w
    → Gives (name_updated o prefix name p) v r w
old-name o prefix name p old v r w h g =
    let P : Action → Type 0 = λ a. Gives a v r w in
    subst P (sym
    (ap (λ y. updated_by o y (λ x new. with_written (name_written name p new) (give (update_value prefix x new))))
    h))
    g

pub name-stops : (o : UpdateOperator) (prefix : Bool) (name : List ℕ) (p : Option Found) (v : World) (x : ActionEnd)
    (w : World)
    → Yields (with_result (value_of_found name p)) v (Err x) w
    → Gives (name_updated o prefix name p) v (Err x) w
name-stops o prefix name p v x w h = λ s said.
    ap (λ a. performed a (with_world s v))
    (name_is o name p (λ y new. with_written (name_written name p new) (give (update_value prefix y new))))
    ∙ h s (λ old. with_result (update_result o old)
    (λ new. with_written (name_written name p new) (give (update_value prefix old new))))
    said

no_state : State
no_state = record { world = no_world; frames = []; outer_this = values.Undefined; input = []; printed = [] }

-- the move of an action that gives a value in a world
abbrev given_in : World → Value → Move Term
given_in w u = goes (done u) (with_world no_state w) went

-- an error yields no value
no_error : (x : Computed) (class : ErrorClass) (message : List ℕ) (v w : World) (old : Value)
    → x ≡ an_error class message
    → Yields (with_result x) v (Ok old) w
    → ⊥
unfolding performed
no_error x class message v w old i h =
    let P : Computed → Type 0 = λ y. Yields (with_result y) v (Ok old) w in
    let k : Yields (with_result (an_error class message)) v (Ok old) w = subst P i h in
    let e : given_in w values.Undefined ≡ given_in w values.Null = sym (k no_state (λ y. give values.Undefined))
    ∙ k no_state (λ y. give values.Null) in
    cc

held_is : (name : List ℕ) (x : Option Value) (v w : World) (old : Value)
    → Yields (with_result (value_or_uninitialized name x)) v (Ok old) w
    → (value_or_uninitialized name x ≡ a_value old) × (v ≡ w)
unfolding performed
held_is name None v w old h = absurd (no_error (not_initialized name) _ _ v w old refl h)
held_is name (Some u) v w old h =
    let e : given_in v u ≡ given_in w old = h no_state (λ y. give y) in
    let i : u ≡ old = cc in
    let j : with_world no_state v ≡ with_world no_state w = cc in
    (ap (λ y. a_value y) i, ap (λ (s : State). s.world) j)

-- a name that yields a value has it, and the world stays
found_is : (name : List ℕ) (p : Option Found) (v w : World) (old : Value)
    → Yields (with_result (value_of_found name p)) v (Ok old) w
    → (value_of_found name p ≡ a_value old) × (v ≡ w)
found_is name None v w old h = absurd (no_error (not_defined name) _ _ v w old refl h)
found_is name (Some f) v w old h = held_is name f.binding.value v w old h

pub read-updated : (o : UpdateOperator) (prefix : Bool) (name : List ℕ) (scope : Addr) (v w : World) (old : Value)
    (r : Result Value ActionEnd) (u : World)
    → Yields (with_result (value_of_found name (found v scope name))) v (Ok old) w
    → Gives (old_updated o prefix name (found w scope name) old) w r u
    → Gives (name_updated o prefix name (found v scope name)) v r u
read-updated o prefix name scope v w old r u h g =
    let e = found_is name (found v scope name) v w old h in
    let P : World → Type 0 = λ x. Gives (old_updated o prefix name (found x scope name) old) x r u in
    old-name o prefix name (found v scope name) old v r u e.0 (subst P (sym e.1) g)

pub name-updated : (ts : List (List ℕ)) (o : UpdateOperator) (name : List ℕ) (p : Option Found) (a : Addr)
    (prefix : Bool) (old new given : Value) (v : World) (r : Result (Unit {0}) ActionEnd) (w : World) (q : Reduced)
    → value_of_found name p ≡ a_value old
    → update_result o old ≡ a_value new
    → given ≡ update_value prefix old new →
    name_written name p new ≡ a_change a (changes.Bind name new)
    → Passes (write a (changes.Bind name new)) v r w
    → q ≡ replied_with r given
    → Replies ts (name_updated o prefix name p) v q w
name-updated ts o name p a prefix old new given v r w q h g i j k e =
    updated-reply ts o (value_of_found name p) (λ b. with_written (name_written name p b))
    prefix old new given v r w q h g i
    (passes-change (name_written name p new) a (changes.Bind name new) v r w j k) e

-- what a name with a value comes to
old_by : (o : UpdateOperator) (prefix : Bool) (name : List ℕ) (p : Option Found) (old : Value) (u : Update) (a : Action)
    (v : World) (r : Result Value ActionEnd) (w : World)
    → ((k : Value → Value → Action) → with_result (update_result o old) (k old) ≡ on_update u k) →
    on_update u (λ x new. with_written (name_written name p new) (give (update_value prefix x new))) ≡ a
    → Gives a v r w
    → Gives (old_updated o prefix name p old) v r w
old_by o prefix name p old u a v r w h e g =
    let P : Action → Type 0 = λ x. Gives x v r w in
    subst P (sym (h (λ x new. with_written (name_written name p new) (give (update_value prefix x new))) ∙ e)) g

pub old-fails : (o : UpdateOperator) (prefix : Bool) (name : List ℕ) (p : Option Found) (old : Value) (u : Update)
    (class : ErrorClass) (message : List ℕ) (v : World) (x : ActionEnd) (w : World)
    → ((k : Value → Value → Action) → with_result (update_result o old) (k old) ≡ on_update u k)
    → u ≡ Fails class message →
    Ends (fail class message) v x w → Gives (old_updated o prefix name p old) v (Err x) w
old-fails o prefix name p old u class message v x w h e g =
    old_by o prefix name p old u (fail class message) v (Err x) w h
    (ap (λ y. on_update y (λ z new. with_written (name_written name p new) (give (update_value prefix z new)))) e)
    g

written_gives : (f : Action → Action) (u : Value) (v : World) (r : Result (Unit {0}) ActionEnd) (w : World)
    (x : ActionEnd)
    → r ≡ Err x
    → Passes f v r w
    → Gives (f (give u)) v (Err x) w
written_gives f u v (Ok y) w x e h = cc
written_gives f u v (Err y) w x e h =
    let i : y ≡ x = cc in
    let P : ActionEnd → Type 0 = λ z. Gives (f (give u)) v (Err z) w in
    subst P i (λ s. h s (give u))

written_given : (f : Action → Action) (u : Value) (v : World) (r : Result (Unit {0}) ActionEnd) (w : World)
    (y : Unit {0})
    → r ≡ Ok y
    → Passes f v r w
    → Gives (f (give u)) v (Ok u) w
written_given f u v (Ok z) w y e h = λ s. h s (give u)
written_given f u v (Err z) w y e h = cc

refused_by : (o : UpdateOperator) (prefix : Bool) (name : List ℕ) (p : Option Found) (old : Value) (v : World)
    (q : Result Value ActionEnd) (w : World) (x : ActionEnd)
    → IsErrAnd q (λ y. y ≡ x)
    → Gives (old_updated o prefix name p old) v (Err x) w
    → Gives (old_updated o prefix name p old) v q w
refused_by o prefix name p old v (Ok y) w x e g = absurd e
refused_by o prefix name p old v (Err y) w x e g =
    let P : ActionEnd → Type 0 = λ z. Gives (old_updated o prefix name p old) v (Err z) w in subst P (sym e) g

pub old-refused : (o : UpdateOperator) (prefix : Bool) (name : List ℕ) (p : Option Found) (old : Value) (u : Update)
    (a new : Value) (v : World) (r : Result (Unit {0}) ActionEnd) (q : Result Value ActionEnd) (w : World)
    (x : ActionEnd)
    → ((k : Value → Value → Action) → with_result (update_result o old) (k old) ≡ on_update u k)
    → u ≡ To a new →
    Passes (with_written (name_written name p new)) v r w
    → r ≡ Err x
    → IsErrAnd q (λ y. y ≡ x)
    → Gives (old_updated o prefix name p old) v q w
old-refused o prefix name p old u a new v r q w x h e g i l =
    refused_by o prefix name p old v q w x l
    (old_by o prefix name p old u (with_written (name_written name p new) (give (update_value prefix a new))) v (Err x)
    w h (ap (λ y. on_update y (λ z b. with_written (name_written name p b) (give (update_value prefix z b)))) e)
    (written_gives (with_written (name_written name p new)) (update_value prefix a new) v r w x i g))

pub old-written : (o : UpdateOperator) (prefix : Bool) (name : List ℕ) (p : Option Found) (old : Value) (u : Update)
    (a new given : Value) (v : World) (r : Result (Unit {0}) ActionEnd) (w : World) (y : Unit {0})
    → ((k : Value → Value → Action) → with_result (update_result o old) (k old) ≡ on_update u k)
    → u ≡ To a new →
    Passes (with_written (name_written name p new)) v r w
    → r ≡ Ok y
    → given ≡ update_value prefix a new
    → Gives (old_updated o prefix name p old) v (Ok given) w
old-written o prefix name p old u a new given v r w y h e g i l =
    let P : Value → Type 0 = λ x. Gives (old_updated o prefix name p old) v (Ok x) w in
    subst P (sym l)
    (old_by o prefix name p old u (with_written (name_written name p new) (give (update_value prefix a new))) v
    (Ok (update_value prefix a new)) w h
    (ap (λ z. on_update z (λ z b. with_written (name_written name p b) (give (update_value prefix z b)))) e)
    (written_given (with_written (name_written name p new)) (update_value prefix a new) v r w y i g))
