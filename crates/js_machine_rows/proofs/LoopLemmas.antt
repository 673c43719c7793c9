-- Lemmas on rows of loops.
use Rattle.std.proofs.Common.{◌≡◌, ℕ, ◌+◌, refl, sym, subst, ap, ◌∙◌, Bool, true, false, List, [], ◌∷◌, Some, None, Result, slice_get, drop, if◌then◌else◌}
use Rattle.std.specs.Prelude.{codes}
use Rattle.js_heap.specs.declared.value.Addr.{Addr}
use Rattle.js_heap.specs.declared.value.Value.{Value}
use Rattle.js_heap.specs.declared.value.Value.TheVariants as values
use Rattle.js_heap.specs.declared.built_in.ErrorClass.TheVariants as classes
use Rattle.js_heap.specs.declared.cell.Binding.{Binding}
use Rattle.js_heap.specs.declared.cell.ScopeKind.TheVariants as scopes
use Rattle.js_heap.specs.Values.{is_truthy}
use Rattle.js_heap.specs.World.{World}
use Rattle.js_semantics.specs.declared.form.Mark.TheVariants.{Start as start}
use Rattle.js_semantics.specs.declared.form.Stage.TheVariants as stages
use Rattle.js_semantics.specs.declared.form.Form.TheVariants.{ListOf as list_of, TurnOf as turn_of, BodyOf as body_of}
use Rattle.js_semantics.specs.Terms.{Term, Terms, done, standing, part, end, more, one, at_test, at_update, settled}
use Rattle.js_semantics.specs.State.{State, with_world, Action, go, give, fail, set_here, goes, went}
use Rattle.js_semantics.specs.BuiltIns.{argument, is_array}
use Rattle.js_semantics.specs.Functions.{new_scope}
use Rattle.js_semantics.specs.Rows.{only, turn_or_end, copied, loop_row, for_in, enter_for_row, enter_for_of_row, list_row, elements_of, body_part, turn_row}
use Rattle.js_heap_memory.specs.declared.stored.Slot.{Slot}
use Rattle.js_heap_memory.specs.Cells.{binding_at}
use Rattle.js_machine_actions.specs.declared.action_end.ActionEnd.{ActionEnd}
use Rattle.js_machine_actions.specs.Flow.{performed, Ends, Yields}
use Rattle.js_machine_actions.specs.Contexts.{Context, state_of, Turns}
use Rattle.js_machine_nodes.specs.declared.node.ForOfEntry.{ForOfEntry}
use Rattle.js_machine_nodes.specs.declared.table.NodeTable.{NodeTable}
use Rattle.js_machine_nodes.specs.Forms.{list_form, turn_form, body_form}
use Rattle.js_machine_nodes.specs.Trees.{tree, terms, trees, kids_between}
use Rattle.js_machine_engine.specs.declared.reduced.Reduced.{Reduced}
use Rattle.js_machine_engine.specs.declared.reduced.Reduced.TheVariants as reduced
use Rattle.js_machine_engine.specs.declared.task.Redex.{Redex}
use Rattle.js_machine_engine.specs.declared.task.Extra.TheVariants as extras
use Rattle.js_machine_engine.specs.Answers.{reduced_move, reduced_term, own_scope, in_scope, head_of, rest_of}
use Rattle.js_machine_engine.specs.Rows.{redex}
use Rattle.js_machine_engine.specs.Tasks.{Wide, turn_scope, index_of, later_of}
use Rattle.js_machine_rows.specs.Does.{Does, DoesIn, DoesWith, stopped}
use Rattle.js_machine_rows.specs.Over.{IsTurn, answered_by, tested}
use Rattle.js_machine_rows.proofs.AnswerLemmas.{stops-does, in-context}
use Rattle.js_machine_rows.proofs.PartLemmas.{first-tree, no-trees}
use Rattle.js_machine_rows.proofs.OverLemmas.{same-action, same-answer, same-row, turns-does, yields-does, give-does}
use Rattle.js_machine_engine.proofs.StageLemmas.{own-scope}

-- ---- tests

tested_does : (ts : List (List ℕ)) (t : NodeTable) (e : Wide) (b : Bool) (s : State)
    → Does ts t e (go (turn_or_end b (own_scope e) (later_of ts t e))) s (tested b) s
unfolding reduced_move reduced_term performed
tested_does ts t e true s = refl
tested_does ts t e false s = refl

pub test-reply : (ts : List (List ℕ)) (w : World) (b : Bool) (u : Value) (vs : List Value) (q : Reduced)
    → b ≡ is_truthy w u
    → u ≡ argument vs 0
    → q ≡ tested b →
    (t : NodeTable) (e : Wide) → DoesIn ts t e (loop_row w stages.Testing (own_scope e) vs (later_of ts t e)) w q w
test-reply ts w b u vs q h i j t e =
    let test : is_truthy w (only vs) ≡ b = ap (is_truthy w) (sym i) ∙ sym h in
    same-action ts t e (loop_row w stages.Testing (own_scope e) vs (later_of ts t e))
    (go (turn_or_end b (own_scope e) (later_of ts t e))) w w q
    (ap (λ x. go (turn_or_end x (own_scope e) (later_of ts t e))) test)
    (same-answer ts t e (go (turn_or_end b (own_scope e) (later_of ts t e))) w w (tested b) q j
    (λ s. tested_does ts t e b (with_world s w)))

-- ---- scopes of turns

scope_none : (info : ℕ) (a : Addr) → info ≡ 0 → turn_scope info a ≡ None
scope_none info a h = ap (λ n. turn_scope n a) h

pub first-none : (ts : List (List ℕ)) (info : ℕ) (a : Addr) (w : World)
    → info ≡ 0
    → (t : NodeTable) (e : Wide) (vs : List Value)
    → DoesIn ts t e (loop_row w stages.First (turn_scope info a) vs (later_of ts t e)) w
    (reduced.Gives values.Undefined) w
first-none ts info a w h t e vs =
    same-action ts t e (loop_row w stages.First (turn_scope info a) vs (later_of ts t e)) (give values.Undefined) w w
    (reduced.Gives values.Undefined)
    (ap (λ x. loop_row w stages.First x vs (later_of ts t e)) (scope_none info a h))
    (λ s. give-does ts t e values.Undefined (with_world s w))

pub body-none : (ts : List (List ℕ)) (info : ℕ) (a : Addr) (w : World)
    → info ≡ 0
    → (t : NodeTable) (e : Wide) (vs : List Value)
    → DoesIn ts t e (loop_row w stages.Body (turn_scope info a) vs (later_of ts t e)) w (reduced.Gives values.Undefined)
    w
body-none ts info a w h t e vs =
    same-action ts t e (loop_row w stages.Body (turn_scope info a) vs (later_of ts t e)) (give values.Undefined) w w
    (reduced.Gives values.Undefined)
    (ap (λ x. loop_row w stages.Body x vs (later_of ts t e)) (scope_none info a h))
    (λ s. give-does ts t e values.Undefined (with_world s w))

tests_does : (ts : List (List ℕ)) (t : NodeTable) (e : Wide) (b : Addr) (s : State)
    → Does ts t e (go (at_test (Some b) (later_of ts t e))) s (reduced.Tests b) s
unfolding reduced_move reduced_term performed
tests_does ts t e b s = refl

updates_does : (ts : List (List ℕ)) (t : NodeTable) (e : Wide) (b : Addr) (s : State)
    → Does ts t e (go (at_update (Some b) (later_of ts t e))) s (reduced.Updates b) s
unfolding reduced_move reduced_term performed
updates_does ts t e b s = refl

pub first-copied : (ts : List (List ℕ)) (info : ℕ) (a : Addr) (v w : World) (r : Result Addr ActionEnd) (q : Reduced)
    → (info ≡ 0 → ⊥)
    → Yields (copied v a) v r w
    → q ≡ answered_by (λ b. reduced.Tests b) r →
    (t : NodeTable) (e : Wide) (vs : List Value)
    → DoesIn ts t e (loop_row v stages.First (turn_scope info a) vs (later_of ts t e)) v q w
first-copied ts info a v w r q h y j t e vs =
    let next : Addr → Action = λ b. go (at_test (Some b) (later_of ts t e)) in
    same-action ts t e (loop_row v stages.First (turn_scope info a) vs (later_of ts t e)) (copied v a next) v w q
    (ap (λ x. loop_row v stages.First x vs (later_of ts t e)) (own-scope info a h))
    (yields-does ts t e (copied v a) next (λ b. reduced.Tests b) v r w q y j (λ b s. tests_does ts t e b s))

pub body-copied : (ts : List (List ℕ)) (info : ℕ) (a : Addr) (v w : World) (r : Result Addr ActionEnd) (q : Reduced)
    → (info ≡ 0 → ⊥)
    → Yields (copied v a) v r w
    → q ≡ answered_by (λ b. reduced.Updates b) r →
    (t : NodeTable) (e : Wide) (vs : List Value)
    → DoesIn ts t e (loop_row v stages.Body (turn_scope info a) vs (later_of ts t e)) v q w
body-copied ts info a v w r q h y j t e vs =
    let next : Addr → Action = λ b. go (at_update (Some b) (later_of ts t e)) in
    same-action ts t e (loop_row v stages.Body (turn_scope info a) vs (later_of ts t e)) (copied v a next) v w q
    (ap (λ x. loop_row v stages.Body x vs (later_of ts t e)) (own-scope info a h))
    (yields-does ts t e (copied v a) next (λ b. reduced.Updates b) v r w q y j (λ b s. updates_does ts t e b s))

-- ---- for

initializes_does : (ts : List (List ℕ)) (t : NodeTable) (e : Wide) (constant : Bool) (a : Addr) (s : State)
    → Does ts t e (go (for_in constant a (later_of ts t e))) s (reduced.Initializes constant a) s
unfolding reduced_move reduced_term performed
initializes_does ts t e constant a s = refl

pub for-reply : (ts : List (List ℕ)) (scope : Addr) (node : ℕ) (constant : Bool) (bs : List Binding) (v w : World)
    (c d : Context) (r : Result Addr ActionEnd) (q : Reduced) →
    Turns (set_here (start node)) c d
    → Yields (new_scope scopes.Block [] scope bs) v r w
    → q ≡ answered_by (λ a. reduced.Initializes constant a) r →
    (t : NodeTable) (e : Wide) → DoesWith ts t e (enter_for_row scope node constant bs (later_of ts t e)) v c q w d
for-reply ts scope node constant bs v w c d r q g y j t e =
    let inner : Addr → Action = λ a. go (for_in constant a (later_of ts t e)) in
    turns-does ts t e (set_here (start node)) (new_scope scopes.Block [] scope bs inner) v w c d d q g
    (in-context ts t e (new_scope scopes.Block [] scope bs inner) v q w d
    (yields-does ts t e (new_scope scopes.Block [] scope bs) inner (λ a. reduced.Initializes constant a) v r w q y j
    (λ a s. initializes_does ts t e constant a s)))

-- ---- for .. of: its list

lists_does : (ts : List (List ℕ)) (t : NodeTable) (e : Wide) (x : ForOfEntry) (l : Term) (rest : Terms) (a : Addr)
    (s : State)
    → Some x ≡ slice_get t.for_ofs.items e.info
    → later_of ts t e ≡ more l rest →
    Does ts t e (go (part (list_of (binding_at ts x.slot)) (one (in_scope a l)) rest)) s (reduced.Lists a) s
unfolding reduced_move reduced_term performed
lists_does ts t e x l rest a s h i =
    ap (λ o. goes (part (list_form ts o) (one (in_scope a l)) rest) s went) h ∙
    ap (λ (y : Terms). goes
    (part (list_form ts (slice_get t.for_ofs.items e.info)) (one (in_scope a (head_of y))) (rest_of y)) s went)
    (sym i)

pub for-of-none : (ts : List (List ℕ)) (t : NodeTable) (form : Redex) (node : ℕ) (b : Binding) (v : World) (c : Context)
    → None ≡ slice_get (kids_between t form.mid form.end) 0 →
    (vs : List Value)
    → DoesWith ts t (redex form vs None) (enter_for_of_row form.inner node b (trees ts t form.mid form.end)) v c
    (reduced.Gives values.Undefined) v c
for-of-none ts t form node b v c h vs =
    same-row ts t (redex form vs None) (enter_for_of_row form.inner node b (trees ts t form.mid form.end))
    (give values.Undefined) v v c c (reduced.Gives values.Undefined)
    (ap (enter_for_of_row form.inner node b) (no-trees ts t form.mid form.end h))
    (λ taken. give-does ts t (redex form vs None) values.Undefined (state_of v c taken))

pub for-of-part : (ts : List (List ℕ)) (t : NodeTable) (form : Redex) (x : ForOfEntry) (k : ℕ) (v w : World)
    (c d : Context) (r : Result Addr ActionEnd) (q : Reduced)
    → Some x ≡ slice_get t.for_ofs.items form.info
    → Some k ≡ slice_get (kids_between t form.mid form.end) 0 →
    Turns (set_here (start x.node)) c d
    → Yields (new_scope scopes.Block [] form.inner (binding_at ts x.slot ∷ [])) v r w
    → q ≡ answered_by (λ a. reduced.Lists a) r →
    (vs : List Value)
    → DoesWith ts t (redex form vs None)
    (enter_for_of_row form.inner x.node (binding_at ts x.slot) (trees ts t form.mid form.end)) v c q w d
for-of-part ts t form x k v w c d r q h i g y j vs =
    let e : Wide = redex form vs None in
    let b : Binding = binding_at ts x.slot in
    let rest : Terms = terms (tree ts t) (drop 1 (kids_between t form.mid form.end)) in
    let inner : Addr → Action = λ a. go (part (list_of b) (one (in_scope a (tree ts t k))) rest) in
    let made : Action = new_scope scopes.Block [] form.inner (b ∷ []) inner in
    let first : trees ts t form.mid form.end ≡ more (tree ts t k) rest = first-tree ts t form.mid form.end k i in
    same-row ts t e (enter_for_of_row form.inner x.node b (trees ts t form.mid form.end)) (set_here (start x.node) made)
    v w c d q (ap (enter_for_of_row form.inner x.node b) first)
    (turns-does ts t e (set_here (start x.node)) made v w c d d q g
    (in-context ts t e made v q w d
    (yields-does ts t e (new_scope scopes.Block [] form.inner (b ∷ [])) inner (λ a. reduced.Lists a) v r w q y j
    (λ a s. lists_does ts t e x (tree ts t k) rest a s h first))))

-- ---- for .. of: its first turn

iterates_does : (ts : List (List ℕ)) (t : NodeTable) (e : Wide) (x : ForOfEntry) (u : Value) (s : State)
    → Some x ≡ slice_get t.for_ofs.items e.info →
    Does ts t e (go (part (turn_of (binding_at ts x.slot) 0) end (more (done u) (later_of ts t e)))) s
    (reduced.Iterates u) s
unfolding reduced_move reduced_term performed
iterates_does ts t e x u s h = ap (λ o. goes (part (turn_form ts o 0) end (more (done u) (later_of ts t e))) s went) h

list_if : (b : Bool) (x y : Action) → true ≡ b → (if b then x else y) ≡ x
list_if true x y h = refl
list_if false x y h = cc

list_else : (b : Bool) (x y : Action) → false ≡ b → (if b then x else y) ≡ y
list_else true x y h = cc
list_else false x y h = refl

pub list-goes : (ts : List (List ℕ)) (t : NodeTable) (info : ℕ) (x : ForOfEntry) (u : Value) (vs : List Value)
    (w : World)
    → Some x ≡ slice_get t.for_ofs.items info
    → u ≡ argument vs 0
    → true ≡ is_array w u →
    (e : Wide)
    → e.info ≡ info
    → DoesIn ts t e (list_row w (binding_at ts x.slot) (only vs) (later_of ts t e)) w (reduced.Iterates u) w
list-goes ts t info x u vs w h i j e k =
    let P : Value
    → Type 0 = λ y. DoesIn ts t e (list_row w (binding_at ts x.slot) y (later_of ts t e)) w (reduced.Iterates u) w in
    let first : Action = go (part (turn_of (binding_at ts x.slot) 0) end (more (done u) (later_of ts t e))) in
    subst P i
    (same-action ts t e (list_row w (binding_at ts x.slot) u (later_of ts t e)) first w w (reduced.Iterates u)
    (list_if (is_array w u) first (fail classes.TypeError (codes "Value is not an array")) j)
    (λ s. iterates_does ts t e x u (with_world s w) (h ∙ ap (λ n. slice_get t.for_ofs.items n) (sym k))))

pub list-fails : (ts : List (List ℕ)) (t : NodeTable) (info : ℕ) (b : Binding) (u : Value) (vs : List Value)
    (v w : World) (x : ActionEnd) (q : Reduced)
    → u ≡ argument vs 0
    → false ≡ is_array v u
    → Ends (fail classes.TypeError (codes "Value is not an array")) v x w
    → q ≡ stopped x →
    (e : Wide) → e.info ≡ info → DoesIn ts t e (list_row v b (only vs) (later_of ts t e)) v q w
list-fails ts t info b u vs v w x q i j g m e k =
    let P : Value → Type 0 = λ y. DoesIn ts t e (list_row v b y (later_of ts t e)) v q w in
    let first : Action = go (part (turn_of b 0) end (more (done u) (later_of ts t e))) in
    let error : Action = fail classes.TypeError (codes "Value is not an array") in
    subst P i
    (same-action ts t e (list_row v b u (later_of ts t e)) error v w q (list_else (is_array v u) first error j)
    (same-answer ts t e error v w (stopped x) q m
    (λ s. stops-does ts t e error (with_world s v) x (with_world s w) (g s))))

-- ---- for .. of: a turn

element_first : (w : World) (u : Term) (us : Terms) (i : ℕ) → elements_of w (more u us) i ≡ elements_of w (one u) i
element_first w (done (values.Object a)) us i = refl
element_first w (done v) us i = refl
element_first w (standing v s) us i = refl
element_first w (part f now later) us i = refl

iterated_does : (ts : List (List ℕ)) (t : NodeTable) (e : Wide) (x : ForOfEntry) (a : Addr) (s : State)
    → Some x ≡ slice_get t.for_ofs.items e.info →
    Does ts t e
    (go (settled (body_of (binding_at ts x.slot) (index_of e.extra + 1))
    (one (in_scope a (body_part (later_of ts t e)))) (later_of ts t e)))
    s (reduced.Iterated a) s
unfolding reduced_move reduced_term performed
iterated_does ts t e x a s h =
    ap (λ o. goes
    (settled (body_form ts o (index_of e.extra + 1)) (one (in_scope a (body_part (later_of ts t e))))
    (later_of ts t e))
    s went)
    h

pub turn-none : (ts : List (List ℕ)) (t : NodeTable) (form : Redex) (b : Binding) (list : Value) (i : ℕ) (w : World)
    → None ≡ elements_of w (one (done list)) i →
    (vs : List Value) → IsTurn ts t (redex form vs (Some (extras.Turn list i))) b w (reduced.Gives values.Undefined) w
turn-none ts t form b list i w h vs =
    let e : Wide = redex form vs (Some (extras.Turn list i)) in
    same-action ts t e (turn_row form.inner b i (elements_of w (later_of ts t e) i) (later_of ts t e))
    (give values.Undefined) w w (reduced.Gives values.Undefined)
    (ap (λ o. turn_row form.inner b i o (later_of ts t e))
    (element_first w (done list) (trees ts t form.mid form.end) i ∙ sym h))
    (λ s. give-does ts t e values.Undefined (with_world s w))

pub turn-part : (ts : List (List ℕ)) (t : NodeTable) (form : Redex) (x : ForOfEntry) (list u : Value) (i : ℕ) (y : Slot)
    (v w : World) (r : Result Addr ActionEnd) (q : Reduced)
    → Some x ≡ slice_get t.for_ofs.items form.info
    → Some u ≡ elements_of v (one (done list)) i →
    y ≡ record x.slot { value = Some u }
    → Yields (new_scope scopes.Block [] form.inner (binding_at ts y ∷ [])) v r w
    → q ≡ answered_by (λ a. reduced.Iterated a) r →
    (vs : List Value) → IsTurn ts t (redex form vs (Some (extras.Turn list i))) (binding_at ts x.slot) v q w
turn-part ts t form x list u i y v w r q h g j p m vs =
    let e : Wide = redex form vs (Some (extras.Turn list i)) in
    let b : Binding = binding_at ts x.slot in
    let bs : List Binding = record b { value = Some u } ∷ [] in
    let P : Slot → Type 0 = λ z. Yields (new_scope scopes.Block [] form.inner (binding_at ts z ∷ [])) v r w in
    let inner : Addr
    → Action = λ a. go (settled (body_of b (i + 1)) (one (in_scope a (body_part (later_of ts t e)))) (later_of ts t e))
    in
    same-action ts t e (turn_row form.inner b i (elements_of v (later_of ts t e) i) (later_of ts t e))
    (new_scope scopes.Block [] form.inner bs inner) v w q
    (ap (λ o. turn_row form.inner b i o (later_of ts t e))
    (element_first v (done list) (trees ts t form.mid form.end) i ∙ sym g))
    (yields-does ts t e (new_scope scopes.Block [] form.inner bs) inner (λ a. reduced.Iterated a) v r w q (subst P j p)
    m (λ a s. iterated_does ts t e x a s h))
