-- One step.
use Rattle.std.proofs.Common.{◌≡◌, ℕ, List, [], ◌∷◌, Option, None, Some, slice_get, refl, sym, ap, subst, ◌∙◌, arith, Result, OnOk}
use Rattle.std.specs.declared.alloc.AllocError.{AllocError}
use Rattle.js_heap.specs.declared.value.Addr.{Addr}
use Rattle.js_heap.specs.declared.value.Value.{Value}
use Rattle.js_heap.specs.declared.value.Value.TheVariants as values
use Rattle.js_semantics.specs.declared.form.Completion.{Completion}
use Rattle.js_semantics.specs.declared.form.Completion.TheVariants.{Throws as throws}
use Rattle.js_semantics.specs.declared.form.SourceMark.{SourceMark}
use Rattle.js_semantics.specs.Terms.{Term, done, part, dones}
use Rattle.js_semantics.specs.State.{State, Move, travels}
use Rattle.js_semantics.specs.Next.{scope_in, next}
use Rattle.js_semantics.specs.Rows.{row}
use Rattle.js_machine_actions.specs.Flow.{performed}
use Rattle.js_machine_nodes.specs.declared.node.Node.{Node}
use Rattle.js_machine_nodes.specs.declared.table.NodeTable.{NodeTable}
use Rattle.js_machine_nodes.specs.Trees.{terms, tree, trees, program_of, IsTable}
use Rattle.js_machine_engine.specs.declared.answer.Demand.{Demand}
use Rattle.js_machine_engine.specs.declared.reduced.Reduced.{Reduced}
use Rattle.js_machine_engine.specs.declared.stepped.Stepped.{Stepped}
use Rattle.js_machine_engine.specs.declared.task.Extra.{Extra}
use Rattle.js_machine_engine.specs.declared.task.Point.{Point}
use Rattle.js_machine_engine.specs.declared.task.Point.TheVariants as points
use Rattle.js_machine_engine.specs.declared.task.Redex.{Redex}
use Rattle.js_machine_engine.specs.declared.task.Task.{Task}
use Rattle.js_machine_engine.specs.Gaps.{plugged, resettled, scope_at, all_risen}
use Rattle.js_machine_engine.specs.Tasks.{Wide, kept_of, gaps_of, task_form, later_of, scope_of, InScopes}
use Rattle.js_machine_engine.specs.Points.{term_at, IsLeaf, IsLeafAt, IsAtRow}
use Rattle.js_machine_engine.specs.Parts.{at_of, mid_of}
use Rattle.js_machine_engine.specs.Rows.{RowOf, redex}
use Rattle.js_machine_engine.specs.Answers.{resumed}
use Rattle.js_machine_engine.specs.Stacks.{wide, outer_of, values_of, extra_of}
use Rattle.js_machine_engine.specs.Following.{innermost}
use Rattle.js_machine_engine.specs.Stepping.{Tells, TellsWithin, Steps, demand_of, Says, went_of}
use Rattle.js_machine_engine.proofs.GapLemmas.{next-row-within, next-standing-within}
use Rattle.js_machine_nodes.proofs.TreeLemmas.{kids-end, node-at}
use Rattle.js_machine_engine.proofs.FinishLemmas.{node-scope}
use Rattle.js_machine_engine.proofs.DescentLemmas.{node_task, node-tree}
use Rattle.js_machine_engine.proofs.ConcludeLemmas.{says, went-follows}
use Rattle.js_machine_engine.proofs.TravelLemmas.{task_redex, scopes-at}

-- ---- what a step tells, of an equal move

pub told-same : (ts : List (List ℕ)) (t : NodeTable) (root : Addr) (old new : List Wide) (p : Point) (m n : Move Term)
    (stepped : Stepped) (u : State)
    → m ≡ n
    → TellsWithin ts t root old n stepped new p u
    → TellsWithin ts t root old m stepped new p u
told-same ts t root old new p m n stepped u e h =
    let P : Move Term → Type 0 = λ x. TellsWithin ts t root old x stepped new p u in
    subst P (sym e) h

-- and behind what was popped
pub told-behind : (ts : List (List ℕ)) (t : NodeTable) (root : Addr) (old us new : List Wide) (p : Point)
    (m n : Move Term) (stepped : Stepped) (u : State)
    → us ≡ outer_of old
    → m ≡ n
    → TellsWithin ts t root us n stepped new p u
    → TellsWithin ts t root (outer_of old) m stepped new p u
told-behind ts t root old us new p m n stepped u o e h =
    let P : List Wide → Type 0 = λ ws. TellsWithin ts t root ws n stepped new p u in
    told-same ts t root (outer_of old) new p m n stepped u e (subst P o h)

-- ---- the innermost task

-- the move of its row
abbrev pub row_move : List (List ℕ) → NodeTable → Addr → Wide → State → Move Term
row_move ts t outer w s = performed (row (program_of ts t) s outer (task_form ts t w) w.values (later_of ts t w)) s

row_says : (ts : List (List ℕ)) (t : NodeTable) (root : Addr) (w : Wide) (ws : List Wide) (r : Reduced) (s u : State)
    → InScopes t root (w ∷ ws)
    → ((outer : Addr) → RowOf ts t w outer s r u)
    → Says ts t w (row_move ts t (scope_at root (gaps_of ts t ws)) w s) r (demand_of r) u
row_says ts t root w ws r s u i h =
    says ts t w (row_move ts t (scope_at root (gaps_of ts t ws)) w s) r u
    (h (scope_at root (gaps_of ts t ws)) (ap (scope_in (task_form ts t w)) (scopes-at ts t root ws i.1) ∙ i.0 ts))

row_next : (ts : List (List ℕ)) (t : NodeTable) (root : Addr) (w : Wide) (ws : List Wide) (s : State)
    → next (program_of ts t) root (term_at ts t (w ∷ ws) points.Row) s ≡ all_risen root (gaps_of ts t ws)
    (row_move ts t (scope_at root (gaps_of ts t ws)) w s)
unfolding term_at
row_next ts t root w ws s =
    next-row-within (program_of ts t) root (gaps_of ts t ws) (task_form ts t w) w.values (later_of ts t w) s

at_redex : (task : Task) (vs : List Value) (e : Option Extra)
    → task.at ≡ task.mid
    → wide task vs e ≡ redex (task_redex task) vs e
at_redex task vs e h =
    let f : ℕ
    → Wide = λ a. record {
      op = task.op;
      info = task.info;
      at = a;
      mid = task.mid;
      end = task.end;
      inner = task.inner;
      values = vs;
      extra = e;
    } in
    ap f h

row_is : (w : Wide) (ws : List Wide) (task : Task)
    → w ∷ ws ≡ wide task w.values w.extra ∷ ws
    → w.at ≡ w.mid
    → w ≡ redex (task_redex task) w.values w.extra
row_is w ws task i h = ap innermost i ∙ at_redex task w.values w.extra (sym (ap at_of i) ∙ h ∙ ap mid_of i)

row_of : (ts : List (List ℕ)) (t : NodeTable) (old : List Wide) (redex_at : Redex) (vs : List Value) (e : Option Extra)
    (r : Reduced) (s u : State)
    → vs ≡ values_of old
    → e ≡ extra_of old
    → ((outer : Addr) → RowOf ts t (redex redex_at vs e) outer s r u)
    → (outer : Addr)
    → RowOf ts t (redex redex_at (values_of old) (extra_of old)) outer s r u
row_of ts t old f vs e r s u a b h =
    let P : List Value → Type 0 = λ x. (outer : Addr) → RowOf ts t (redex f x e) outer s r u in
    let Q : Option Extra → Type 0 = λ x. (outer : Addr) → RowOf ts t (redex f (values_of old) x) outer s r u in
    subst Q b (subst P a h)

row_told : (ts : List (List ℕ)) (t : NodeTable) (root : Addr) (old new : List Wide) (p : Point) (task : Task)
    (r : Reduced) (a : Demand) (stepped : Stepped) (s u v : State)
    → old ≡ wide task (values_of old) (extra_of old) ∷ outer_of old
    → IsAtRow old
    → InScopes t root old
    → a ≡ demand_of r
    → ((outer : Addr) → RowOf ts t (redex (task_redex task) (values_of old) (extra_of old)) outer s r u)
    → ((m : Move Term) → Says ts t (innermost old) m r a u → TellsWithin ts t root (outer_of old) m stepped new p v)
    → Steps ts t root old points.Row s stepped new p v
row_told ts t root [] new p task r a stepped s u v i at o b h k = absurd at
row_told ts t root (w ∷ ws) new p task r a stepped s u v i at o b h k =
    let P : Wide → Type 0 = λ x. (outer : Addr) → RowOf ts t x outer s r u in
    let m : Move Term = row_move ts t (scope_at root (gaps_of ts t ws)) w s in
    let Q : Demand → Type 0 = λ x. Says ts t w m r x u in
    let R : Move Term → Type 0 = λ x. Tells x stepped (term_at ts t new p) v in
    subst R (sym (row_next ts t root w ws s))
    (k m (subst Q (sym b) (row_says ts t root w ws r s u o (subst P (sym (row_is w ws task i at)) h))))

-- the step of the innermost task, from its row's answer and what that is told as
pub row-told : (ts : List (List ℕ)) (t : NodeTable) (root : Addr) (old new : List Wide) (p : Point) (task : Task)
    (vs : List Value) (e : Option Extra) (r : Reduced) (a : Demand) (stepped : Stepped) (s u v : State)
    → old ≡ wide task (values_of old) (extra_of old) ∷ outer_of old
    → IsAtRow old
    → InScopes t root old
    → vs ≡ values_of old
    → e ≡ extra_of old
    → a ≡ demand_of r
    → ((outer : Addr) → RowOf ts t (redex (task_redex task) vs e) outer s r u)
    → ((m : Move Term) → Says ts t (innermost old) m r a u → TellsWithin ts t root (outer_of old) m stepped new p v)
    → Steps ts t root old points.Row s stepped new p v
row-told ts t root old new p task vs e r a stepped s u v i at o x y b h k =
    row_told ts t root old new p task r a stepped s u v i at o b (row_of ts t old (task_redex task) vs e r s u x y h) k

-- ---- a completion that is kept

pub inner-extra : (ws : List Wide) → (innermost ws).extra ≡ extra_of ws
inner-extra [] = refl
inner-extra (w ∷ ws) = refl

pub resumed-as : (ws : List Wide) (e : Option Extra) (k o : Option Completion) (s : State)
    → e ≡ extra_of ws
    → k ≡ kept_of e
    → k ≡ o
    → resumed (kept_of (innermost ws).extra) s ≡ resumed o s
resumed-as ws e k o s a b c = ap (λ x. resumed x s) (ap kept_of (inner-extra ws ∙ sym a) ∙ sym b ∙ c)

-- ---- a node without parts

-- a node as what is about to be reduced
abbrev pub node_redex : Node → Addr → Redex
node_redex node inner = record { op = node.op; info = node.info; mid = node.mid; end = node.end; inner = inner }

abbrev leaf_task : Node → Addr → Wide
leaf_task node inner = redex (node_redex node inner) [] None

leaf_form : (ts : List (List ℕ)) (t : NodeTable) (node : Node) (inner : Addr)
    → task_form ts t (node_task node inner) ≡ task_form ts t (leaf_task node inner)
unfolding task_form
leaf_form ts t node inner = refl

pub leaf_is : (t : NodeTable) (n : ℕ) (node : Node)
    → slice_get t.nodes.items n ≡ Some node
    → IsLeafAt (slice_get t.nodes.items n)
    → IsLeaf node
leaf_is t n node e h =
    let P : Option Node → Type 0 = IsLeafAt in
    subst P e h

leaf_tree : (ts : List (List ℕ)) (t : NodeTable) (n : ℕ) (node : Node) (inner : Addr)
    → IsTable t
    → slice_get t.nodes.items n ≡ Some node
    → IsLeaf node
    → tree ts t n ≡ part (task_form ts t (leaf_task node inner)) (dones []) (later_of ts t (leaf_task node inner))
leaf_tree ts t n node inner table e h =
    node-tree ts t n node inner table e h.value
    ∙ ap (λ f. part f (trees ts t node.first node.mid) (trees ts t node.mid node.end)) (leaf_form ts t node inner)
    ∙ ap (λ x. part (task_form ts t (leaf_task node inner)) x (trees ts t node.mid node.end))
    (ap (terms (tree ts t)) (kids-end t node.first node.mid (omega (arith, h.parts))))

leaf_scope : (ts : List (List ℕ)) (t : NodeTable) (n : ℕ) (node : Node) (inner outer : Addr)
    → IsTable t
    → slice_get t.nodes.items n ≡ Some node
    → scope_in (task_form ts t (leaf_task node inner)) outer ≡ outer
unfolding task_form
leaf_scope ts t n node inner outer table e =
    node-scope ts t node.op node.info inner outer (node-at t n node table e).source (node-at t n node table e).turns

-- its parts are in the scope of the innermost gap
pub leaf-scope : (t : NodeTable) (n : ℕ) (node : Node) (inner : Addr) (root : Addr) (old : List Wide)
    → IsTable t
    → slice_get t.nodes.items n ≡ Some node
    → inner ≡ scope_of root old
    → (ts : List (List ℕ))
    → scope_in (task_form ts t (redex (node_redex node inner) [] None)) (scope_of root old) ≡ inner
leaf-scope t n node inner root old table e i ts = leaf_scope ts t n node inner (scope_of root old) table e ∙ sym i

leaf_next : (ts : List (List ℕ)) (t : NodeTable) (root : Addr) (old : List Wide) (n : ℕ) (node : Node) (inner : Addr)
    (s : State)
    → IsTable t
    → slice_get t.nodes.items n ≡ Some node
    → IsLeaf node
    → next (program_of ts t) root (term_at ts t old (points.Leaf n)) s ≡ all_risen root (gaps_of ts t old)
    (row_move ts t (scope_at root (gaps_of ts t old)) (leaf_task node inner) s)
unfolding term_at
leaf_next ts t root old n node inner s table e h =
    ap (λ x. next (program_of ts t) root (plugged (gaps_of ts t old) x) s) (leaf_tree ts t n node inner table e h)
    ∙ next-row-within (program_of ts t) root (gaps_of ts t old) (task_form ts t (leaf_task node inner)) []
    (later_of ts t (leaf_task node inner)) s

pub leaf-told : (ts : List (List ℕ)) (t : NodeTable) (root : Addr) (old new : List Wide) (p : Point) (n : ℕ)
    (node : Node) (inner : Addr) (r : Reduced) (a : Demand) (stepped : Stepped) (s u v : State)
    → IsTable t
    → slice_get t.nodes.items n ≡ Some node
    → IsLeafAt (slice_get t.nodes.items n)
    → inner ≡ scope_of root old
    → InScopes t root old
    → a ≡ demand_of r
    → ((outer : Addr) → RowOf ts t (redex (node_redex node inner) [] None) outer s r u)
    → ((m : Move Term)
    → Says ts t (redex (node_redex node inner) [] None) m r a u
    → TellsWithin ts t root old m stepped new p v)
    → Steps ts t root old (points.Leaf n) s stepped new p v
leaf-told ts t root old new p n node inner r a stepped s u v table e l i o b h k =
    let scope : Addr = scope_at root (gaps_of ts t old) in
    let w : Wide = redex (node_redex node inner) [] None in
    let m : Move Term = row_move ts t scope w s in
    let Q : Demand → Type 0 = λ x. Says ts t w m r x u in
    let R : Move Term → Type 0 = λ x. Tells x stepped (term_at ts t new p) v in
    subst R (sym (leaf_next ts t root old n node inner s table e (leaf_is t n node e l)))
    (k m (subst Q (sym b)
    (says ts t w m r u
    (h scope (leaf_scope ts t n node inner scope table e ∙ scopes-at ts t root old o ∙ sym i)))))

-- ---- a throw that stands

standing_next : (ts : List (List ℕ)) (t : NodeTable) (root : Addr) (old : List Wide) (v : Value) (place : SourceMark)
    (s : State)
    → next (program_of ts t) root (term_at ts t old (points.Stands v place)) s ≡ all_risen root (gaps_of ts t old)
    (travels (throws v place) s)
unfolding term_at
standing_next ts t root old v place s = next-standing-within (program_of ts t) root (gaps_of ts t old) v place s

pub standing-told : (ts : List (List ℕ)) (t : NodeTable) (root : Addr) (old new : List Wide) (p q : Point) (v : Value)
    (place : SourceMark) (stepped : Stepped) (s u : State)
    → q ≡ points.Stands v place
    → TellsWithin ts t root old (travels (throws v place) s) stepped new p u
    → Steps ts t root old q s stepped new p u
standing-told ts t root old new p q v place stepped s u e h =
    let P : Point → Type 0 = λ x. Steps ts t root old x s stepped new p u in
    let R : Move Term → Type 0 = λ x. Tells x stepped (term_at ts t new p) u in
    subst P (sym e) (subst R (sym (standing_next ts t root old v place s)) h)

-- undefined comes, for a completion that no `finally` kept
pub nothing-told : (ts : List (List ℕ)) (t : NodeTable) (root : Addr) (old new : List Wide) (p : Point) (m : Move Term)
    (stepped : Stepped) (r : Result (Unit {0}) AllocError) (s : State)
    → stepped ≡ went_of r
    → m ≡ resumed None s
    → OnOk r ((names : List (List ℕ)) → resettled (gaps_of names t old) (done values.Undefined) ≡ term_at names t new p)
    → TellsWithin ts t root old m stepped new p s
nothing-told ts t root old new p m stepped r s w e h =
    went-follows r stepped ts t root old new p m (λ names. done values.Undefined) s w e h
