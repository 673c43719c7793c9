-- Lemmas on rows of statements, blocks and tests.
use Rattle.std.proofs.Common.{◌≡◌, ℕ, suc, ◌+◌, refl, sym, subst, ap, ◌∙◌, Bool, true, false, List, [], ◌∷◌, Option, Some, None, Result, slice_get, length, arith}
use Rattle.std.specs.Prelude.{nat_eq}
use Rattle.js_heap.specs.declared.cell.Binding.{Binding}
use Rattle.js_heap.specs.declared.cell.ScopeKind.TheVariants as scopes
use Rattle.js_heap.specs.declared.value.Addr.{Addr}
use Rattle.js_heap.specs.declared.value.Value.{Value}
use Rattle.js_heap.specs.declared.value.Value.TheVariants as values
use Rattle.js_heap.specs.declared.change.Change.TheVariants as changes
use Rattle.js_heap.specs.Values.{is_truthy}
use Rattle.js_heap.specs.World.{World}
use Rattle.js_semantics.specs.Terms.{Terms, end, settle}
use Rattle.js_semantics.specs.declared.form.Mark.TheVariants.{Start as start}
use Rattle.js_semantics.specs.State.{with_world, Action, go, give, write, set_here}
use Rattle.js_semantics.specs.BuiltIns.{argument}
use Rattle.js_semantics.specs.Functions.{new_scope}
use Rattle.js_heap_memory.specs.declared.stored.Slot.{Slot}
use Rattle.js_heap_memory.specs.Cells.{bindings}
use Rattle.js_semantics.specs.Rows.{only, chosen, kept_or, otherwise, script_row, block_row, catch_row, enter_row, initialize_row, choose_row, both_row, either_row}
use Rattle.js_machine_actions.specs.declared.action_end.ActionEnd.{ActionEnd}
use Rattle.js_machine_actions.specs.Flow.{Yields, Passes}
use Rattle.js_machine_actions.specs.Contexts.{Context, state_of, Turns}
use Rattle.js_machine_nodes.specs.declared.table.NodeTable.{NodeTable}
use Rattle.js_machine_nodes.specs.Trees.{tree, trees, kids_between}
use Rattle.js_machine_engine.specs.declared.reduced.Reduced.{Reduced}
use Rattle.js_machine_engine.specs.declared.reduced.Reduced.TheVariants as reduced
use Rattle.js_machine_engine.specs.Answers.{in_scope}
use Rattle.js_machine_rows.specs.Does.{Does, Replies, replied_with}
use Rattle.js_machine_rows.specs.Over.{RepliesOver, RepliesOverWith, RepliesInside, RepliesAnywhere, answered_by, entered_script, script_declared, scope_declared, uncovered, gone_to}
use Rattle.js_machine_rows.proofs.AnswerLemmas.{passes-reply, in-context}
use Rattle.js_machine_rows.proofs.PartLemmas.{first-tree, no-trees}
use Rattle.js_machine_rows.proofs.OverLemmas.{choice, first-kept, same-action, same-answer, same-row, turns-does, yields-does, passes-does, scopes-does, give-does, uncovers-does, chosen-does, kept-does, kept-else, otherwise-does, otherwise-else}

-- ---- statements

pub enter-part : (t : NodeTable) (node from to k : ℕ) (c d : Context)
    → Some k ≡ slice_get (kids_between t from to) 0
    → Turns (set_here (start node)) c d
    → RepliesAnywhere t (λ ts. enter_row node (trees ts t from to)) c (reduced.Uncovers k) d
enter-part t node from to k c d h g = λ ts w e.
    same-row ts t e (enter_row node (trees ts t from to)) (set_here (start node) (go (settle (tree ts t k)))) w w c d
    (reduced.Uncovers k) (ap (enter_row node) (first-tree ts t from to k h))
    (turns-does ts t e (set_here (start node)) (go (settle (tree ts t k))) w w c d d (reduced.Uncovers k) g
    (λ taken. uncovers-does ts t e k (state_of w d taken)))

pub enter-none : (t : NodeTable) (node from to : ℕ) (c : Context)
    → None ≡ slice_get (kids_between t from to) 0
    → RepliesAnywhere t (λ ts. enter_row node (trees ts t from to)) c (reduced.Gives values.Undefined) c
enter-none t node from to c h = λ ts w e.
    same-row ts t e (enter_row node (trees ts t from to)) (give values.Undefined) w w c c
    (reduced.Gives values.Undefined) (ap (enter_row node) (no-trees ts t from to h))
    (λ taken. give-does ts t e values.Undefined (state_of w c taken))

pub initialize-reply : (ts : List (List ℕ)) (scope : Addr) (name : List ℕ) (vs : List Value) (u : Value) (v : World)
    (r : Result (Unit {0}) ActionEnd) (w : World) (q : Reduced)
    → u ≡ argument vs 0
    → Passes (write scope (changes.Bind name u)) v r w
    → q ≡ replied_with r values.Undefined
    → Replies ts (initialize_row scope name vs) v q w
initialize-reply ts scope name vs u v r w q i h e =
    let P : Value → Type 0 = λ x. Replies ts (write scope (changes.Bind name x) (give values.Undefined)) v q w in
    subst P i (passes-reply ts (write scope (changes.Bind name u)) values.Undefined v r w q h e)

-- ---- tests

pub choose-reply : (ts : List (List ℕ)) (t : NodeTable) (w : World) (b : Bool) (u : Value) (vs : List Value)
    (from to : ℕ) (o : Option ℕ) (q : Reduced) →
    b ≡ is_truthy w u
    → u ≡ argument vs 0
    → o ≡ slice_get (kids_between t from to) (choice b)
    → q ≡ uncovered o
    → RepliesOver ts t (choose_row w (only vs) (trees ts t from to)) w q w
choose-reply ts t w b u vs from to o q h i j k = λ e.
    let test : is_truthy w (only vs) ≡ b = ap (is_truthy w) (sym i) ∙ sym h in
    let ks : List ℕ = kids_between t from to in
    same-action ts t e (choose_row w (only vs) (trees ts t from to)) (go (chosen b (trees ts t from to))) w w q
    (ap (λ x. go (chosen x (trees ts t from to))) test)
    (same-answer ts t e (go (chosen b (trees ts t from to))) w w (uncovered (slice_get ks (choice b))) q
    (k ∙ ap uncovered j) (λ s. chosen-does ts t e b ks (with_world s w)))

both_then : (ts : List (List ℕ)) (t : NodeTable) (w : World) (u : Value) (from to : ℕ) (o : Option ℕ) (q : Reduced) →
    true ≡ is_truthy w u
    → o ≡ slice_get (kids_between t from to) 0
    → q ≡ gone_to o u
    → RepliesOver ts t (both_row w u (trees ts t from to)) w q w
both_then ts t w u from to o q h j k = λ e.
    let ks : List ℕ = kids_between t from to in
    same-action ts t e (both_row w u (trees ts t from to)) (go (kept_or true u (trees ts t from to))) w w q
    (ap (λ x. go (kept_or x u (trees ts t from to))) (sym h))
    (same-answer ts t e (go (kept_or true u (trees ts t from to))) w w (gone_to (slice_get ks 0) u) q
    (k ∙ ap (λ x. gone_to x u) j) (λ s. kept-does ts t e u ks (with_world s w)))

pub both-then : (ts : List (List ℕ)) (t : NodeTable) (w : World) (u : Value) (vs : List Value) (from to : ℕ)
    (o : Option ℕ) (q : Reduced) →
    true ≡ is_truthy w u
    → u ≡ argument vs 0
    → o ≡ slice_get (kids_between t from to) 0
    → q ≡ gone_to o u
    → RepliesOver ts t (both_row w (only vs) (trees ts t from to)) w q w
both-then ts t w u vs from to o q h i j k =
    let P : Value → Type 0 = λ x. RepliesOver ts t (both_row w x (trees ts t from to)) w q w in
    subst P i (both_then ts t w u from to o q h j k)

both_else : (ts : List (List ℕ)) (t : NodeTable) (w : World) (u : Value) (from to : ℕ)
    → false ≡ is_truthy w u
    → RepliesOver ts t (both_row w u (trees ts t from to)) w (reduced.Gives u) w
both_else ts t w u from to h = λ e.
    same-action ts t e (both_row w u (trees ts t from to)) (go (kept_or false u (trees ts t from to))) w w
    (reduced.Gives u) (ap (λ x. go (kept_or x u (trees ts t from to))) (sym h))
    (λ s. kept-else ts t e u (kids_between t from to) (with_world s w))

pub both-else : (ts : List (List ℕ)) (t : NodeTable) (w : World) (u : Value) (vs : List Value) (from to : ℕ)
    → false ≡ is_truthy w u
    → u ≡ argument vs 0
    → RepliesOver ts t (both_row w (only vs) (trees ts t from to)) w (reduced.Gives u) w
both-else ts t w u vs from to h i =
    let P : Value → Type 0 = λ x. RepliesOver ts t (both_row w x (trees ts t from to)) w (reduced.Gives u) w in
    subst P i (both_else ts t w u from to h)

either_else : (ts : List (List ℕ)) (t : NodeTable) (w : World) (u : Value) (from to : ℕ) (o : Option ℕ) (q : Reduced) →
    false ≡ is_truthy w u
    → o ≡ slice_get (kids_between t from to) 0
    → q ≡ gone_to o u
    → RepliesOver ts t (either_row w u (trees ts t from to)) w q w
either_else ts t w u from to o q h j k = λ e.
    let ks : List ℕ = kids_between t from to in
    same-action ts t e (either_row w u (trees ts t from to)) (go (otherwise false u (trees ts t from to))) w w q
    (ap (λ x. go (otherwise x u (trees ts t from to))) (sym h))
    (same-answer ts t e (go (otherwise false u (trees ts t from to))) w w (gone_to (slice_get ks 0) u) q
    (k ∙ ap (λ x. gone_to x u) j) (λ s. otherwise-does ts t e u ks (with_world s w)))

pub either-else : (ts : List (List ℕ)) (t : NodeTable) (w : World) (u : Value) (vs : List Value) (from to : ℕ)
    (o : Option ℕ) (q : Reduced) →
    false ≡ is_truthy w u
    → u ≡ argument vs 0
    → o ≡ slice_get (kids_between t from to) 0
    → q ≡ gone_to o u
    → RepliesOver ts t (either_row w (only vs) (trees ts t from to)) w q w
either-else ts t w u vs from to o q h i j k =
    let P : Value → Type 0 = λ x. RepliesOver ts t (either_row w x (trees ts t from to)) w q w in
    subst P i (either_else ts t w u from to o q h j k)

either_then : (ts : List (List ℕ)) (t : NodeTable) (w : World) (u : Value) (from to : ℕ)
    → true ≡ is_truthy w u
    → RepliesOver ts t (either_row w u (trees ts t from to)) w (reduced.Gives u) w
either_then ts t w u from to h = λ e.
    same-action ts t e (either_row w u (trees ts t from to)) (go (otherwise true u (trees ts t from to))) w w
    (reduced.Gives u) (ap (λ x. go (otherwise x u (trees ts t from to))) (sym h))
    (λ s. otherwise-else ts t e u (kids_between t from to) (with_world s w))

pub either-then : (ts : List (List ℕ)) (t : NodeTable) (w : World) (u : Value) (vs : List Value) (from to : ℕ)
    → true ≡ is_truthy w u
    → u ≡ argument vs 0
    → RepliesOver ts t (either_row w (only vs) (trees ts t from to)) w (reduced.Gives u) w
either-then ts t w u vs from to h i =
    let P : Value → Type 0 = λ x. RepliesOver ts t (either_row w x (trees ts t from to)) w (reduced.Gives u) w in
    subst P i (either_then ts t w u from to h)

-- ---- scripts

pub script-none : (ts : List (List ℕ)) (t : NodeTable) (number : ℕ) (names : List Binding) (from to : ℕ) (v : World)
    (c : Context)
    → None ≡ slice_get (kids_between t from to) 0 →
    RepliesOverWith ts t (script_row number names (trees ts t from to)) v c (reduced.Gives values.Undefined) v c
script-none ts t number names from to v c h = λ e.
    same-row ts t e (script_row number names (trees ts t from to)) (give values.Undefined) v v c c
    (reduced.Gives values.Undefined) (ap (script_row number names) (no-trees ts t from to h))
    (λ taken. give-does ts t e values.Undefined (state_of v c taken))

pub script-part : (ts : List (List ℕ)) (t : NodeTable) (number : ℕ) (names : List Binding) (from to k : ℕ) (v w : World)
    (c d : Context) (r : Result (Unit {0}) ActionEnd) (q : Reduced) →
    Some k ≡ slice_get (kids_between t from to) 0
    → Turns (entered_script number) c d
    → Passes (script_declared names (trees ts t (from + 1) to)) v r w
    → q ≡ answered_by (λ _. reduced.Uncovers k) r →
    RepliesOverWith ts t (script_row number names (trees ts t from to)) v c q w d
script-part ts t number names from to k v w c d r q h g p j = λ e.
    let fs : Terms = trees ts t (from + 1) to in
    let body : Action = go (settle (tree ts t k)) in
    same-row ts t e (script_row number names (trees ts t from to))
    (entered_script number (script_declared names fs body)) v w c d q
    (ap (script_row number names) (first-kept ts t from to k h))
    (turns-does ts t e (entered_script number) (script_declared names fs body) v w c d d q g
    (in-context ts t e (script_declared names fs body) v q w d
    (passes-does ts t e (script_declared names fs) body (λ _. reduced.Uncovers k) v r w q p j
    (λ u s. uncovers-does ts t e k s))))

-- ---- blocks

block_end : (scope : Addr) (names : List Binding) → block_row scope names end ≡ give values.Undefined
block_end scope [] = refl
block_end scope (b ∷ bs) = refl

pub block-none : (ts : List (List ℕ)) (t : NodeTable) (scope : Addr) (names : List Binding) (from to : ℕ) (v : World)
    → None ≡ slice_get (kids_between t from to) 0 →
    RepliesOver ts t (block_row scope names (trees ts t from to)) v (reduced.Gives values.Undefined) v
block-none ts t scope names from to v h = λ e.
    same-action ts t e (block_row scope names (trees ts t from to)) (give values.Undefined) v v
    (reduced.Gives values.Undefined) (ap (block_row scope names) (no-trees ts t from to h) ∙ block_end scope names)
    (λ s. give-does ts t e values.Undefined (with_world s v))

some_slots : (n : ℕ) → nat_eq (suc n) 0 ≡ true → ⊥
some_slots n h = grind arith

pub block-plain : (ts : List (List ℕ)) (t : NodeTable) (scope : Addr) (slots : List Slot) (from to k : ℕ) (v : World)
    → Some k ≡ slice_get (kids_between t from to) 0
    → nat_eq (length slots) 0 ≡ true →
    RepliesOver ts t (block_row scope (bindings ts slots) (trees ts t from to)) v (reduced.Uncovers k) v
block-plain ts t scope [] from to k v h i = λ e.
    same-action ts t e (block_row scope [] (trees ts t from to)) (go (settle (tree ts t k))) v v (reduced.Uncovers k)
    (ap (block_row scope []) (first-tree ts t from to k h))
    (λ s. uncovers-does ts t e k (with_world s v))
block-plain ts t scope (x ∷ xs) from to k v h i = absurd (some_slots (length xs) i)

pub block-part : (ts : List (List ℕ)) (t : NodeTable) (scope : Addr) (slots : List Slot) (from to k : ℕ) (v w : World)
    (r : Result Addr ActionEnd) (q : Reduced) →
    Some k ≡ slice_get (kids_between t from to) 0
    → nat_eq (length slots) 0 ≡ false
    → Yields (scope_declared scopes.Block scope (bindings ts slots) (trees ts t (from + 1) to)) v r w
    → q ≡ answered_by (λ a. reduced.Scopes a k) r →
    RepliesOver ts t (block_row scope (bindings ts slots) (trees ts t from to)) v q w
block-part ts t scope [] from to k v w r q h i y m = cc
block-part ts t scope (x ∷ more_slots) from to k v w r q h i y m = λ e.
    let bs : List Binding = bindings ts (x ∷ more_slots) in
    let fs : Terms = trees ts t (from + 1) to in
    let inner : Addr → Action = λ a. go (in_scope a (settle (tree ts t k))) in
    same-action ts t e (block_row scope bs (trees ts t from to)) (scope_declared scopes.Block scope bs fs inner) v w q
    (ap (block_row scope bs) (first-kept ts t from to k h))
    (yields-does ts t e (scope_declared scopes.Block scope bs fs) inner (λ a. reduced.Scopes a k) v r w q y m
    (λ a s. scopes-does ts t e a k s))

-- ---- catches

pub catch-plain : (t : NodeTable) (scope : Addr) (from to : ℕ) (o : Option ℕ) (q : Reduced)
    → o ≡ slice_get (kids_between t from to) 0
    → q ≡ uncovered o
    → (thrown : Value)
    → RepliesInside t (λ ts. catch_row scope None thrown (trees ts t from to)) q
catch-plain t scope from to None q h j thrown = λ ts e s.
    let P : Terms → Type 0 = λ x. Does ts t e (catch_row scope None thrown x) s q s in
    let Q : Reduced → Type 0 = λ x. Does ts t e (give values.Undefined) s x s in
    subst P (sym (no-trees ts t from to h)) (subst Q (sym j) (give-does ts t e values.Undefined s))
catch-plain t scope from to (Some k) q h j thrown = λ ts e s.
    let P : Terms → Type 0 = λ x. Does ts t e (catch_row scope None thrown x) s q s in
    let Q : Reduced → Type 0 = λ x. Does ts t e (go (settle (tree ts t k))) s x s in
    subst P (sym (first-tree ts t from to k h)) (subst Q (sym j) (uncovers-does ts t e k s))

pub catch-none : (ts : List (List ℕ)) (t : NodeTable) (scope : Addr) (name : List ℕ) (thrown : Value) (from to : ℕ)
    (v : World)
    → None ≡ slice_get (kids_between t from to) 0 →
    RepliesOver ts t (catch_row scope (Some name) thrown (trees ts t from to)) v (reduced.Gives values.Undefined) v
catch-none ts t scope name thrown from to v h = λ e.
    same-action ts t e (catch_row scope (Some name) thrown (trees ts t from to)) (give values.Undefined) v v
    (reduced.Gives values.Undefined) (ap (catch_row scope (Some name) thrown) (no-trees ts t from to h))
    (λ s. give-does ts t e values.Undefined (with_world s v))

pub catch-part : (ts : List (List ℕ)) (t : NodeTable) (scope : Addr) (name : List ℕ) (thrown : Value) (from to k : ℕ)
    (v w : World) (r : Result Addr ActionEnd) (q : Reduced) →
    Some k ≡ slice_get (kids_between t from to) 0
    → Yields (new_scope scopes.Catch [] scope (record { name = name; constant = false; value = Some thrown } ∷ []))
    v r w
    → q ≡ answered_by (λ a. reduced.Scopes a k) r →
    RepliesOver ts t (catch_row scope (Some name) thrown (trees ts t from to)) v q w
catch-part ts t scope name thrown from to k v w r q h y m = λ e.
    let bs : List Binding = record { name = name; constant = false; value = Some thrown } ∷ [] in
    let inner : Addr → Action = λ a. go (in_scope a (settle (tree ts t k))) in
    same-action ts t e (catch_row scope (Some name) thrown (trees ts t from to))
    (new_scope scopes.Catch [] scope bs inner) v w q
    (ap (catch_row scope (Some name) thrown) (first-tree ts t from to k h))
    (yields-does ts t e (new_scope scopes.Catch [] scope bs) inner (λ a. reduced.Scopes a k) v r w q y m
    (λ a s. scopes-does ts t e a k s))
