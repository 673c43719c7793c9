-- The innermost scopes of active frames are those that the tasks say.
use Rattle.std.proofs.Common.{◌≡◌, ℕ, zero, suc, ◌+◌, ◌-◌, ◌≤◌, Bool, true, false, List, [], ◌∷◌, length, drop, Option, Some, None, slice_get, if◌then◌else◌, refl, sym, ap, ◌∙◌, arith}
use Rattle.std.proofs.lemmas.List.{drop_all}
use Rattle.js_heap.specs.declared.value.Addr.{Addr}
use Rattle.js_heap.specs.declared.value.Value.{Value}
use Rattle.js_semantics.specs.declared.form.Form.{Form}
use Rattle.js_semantics.specs.declared.form.Form.TheVariants.{Frame as frame}
use Rattle.js_semantics.specs.declared.form.SourceMark.{SourceMark}
use Rattle.js_semantics.specs.Terms.{Term, Terms, done, standing, part, end, more, joined, dones, is_done}
use Rattle.js_semantics.specs.Next.{scope_in}
use Rattle.js_semantics.specs.Frames.{scopes_at, scopes_in, reversed_onto}
use Rattle.js_machine_nodes.specs.declared.op.Op.{Op}
use Rattle.js_machine_nodes.specs.declared.op.Op.TheVariants as ops
use Rattle.js_machine_nodes.specs.declared.node.Node.{Node}
use Rattle.js_machine_nodes.specs.declared.table.NodeTable.{NodeTable}
use Rattle.js_machine_nodes.specs.Ops.{is_task_only}
use Rattle.js_machine_nodes.specs.Forms.{form_of}
use Rattle.js_machine_nodes.specs.Trees.{IsTable, IsNode}
use Rattle.js_machine_engine.specs.declared.task.Point.{Point}
use Rattle.js_machine_engine.specs.declared.task.Point.TheVariants as points
use Rattle.js_machine_engine.specs.Gaps.{gap_parts, filled, plugged}
use Rattle.js_machine_engine.specs.Tasks.{Wide, gap_of, gaps_of, task_form, redex_of, later_of, form_in, scope_of, InScopes}
use Rattle.js_machine_engine.specs.Points.{term_at, IsAt, IsLeafAt}
use Rattle.js_machine_engine.proofs.FinishLemmas.{node-form, node-scope}
use Rattle.js_machine_inspection.specs.Kinds.{kind_of}
use Rattle.js_machine_inspection.proofs.FrameKinds.{is_leaving}
use Rattle.js_machine_inspection.specs.Scopes.{is_frame, is_frame_at, call_scopes, frame_scopes}
use Rattle.js_machine_inspection.proofs.KindLemmas.{form-kind, task-leaves, leaving-op}
use Rattle.js_machine_inspection.proofs.ActiveLemmas.{leaf, leaf-tree, node-at}

-- ---- a form with its parts

abbrev scopes_by : Bool → Addr → Addr → Terms → List Addr
scopes_by true outer within now = outer ∷ scopes_in within now
scopes_by false outer within now = scopes_in within now

scopes_part : (f : Form) (scope : Addr) (now later : Terms)
    → scopes_at scope (part f now later) ≡ scopes_by (is_leaving (kind_of f)) scope (scope_in f scope) now
scopes_part (frame node a) scope now later = refl
scopes_part f scope now later = refl

scopes_gap : (vs : List Value) (r : Term) (us : Terms) (scope : Addr)
    → is_done r ≡ false
    → scopes_in scope (joined (dones vs) (more r us)) ≡ scopes_at scope r
scopes_gap [] (done v) us scope h = cc
scopes_gap [] (standing v place) us scope h = refl
scopes_gap [] (part f now later) us scope h = refl
scopes_gap (v ∷ vs) r us scope h = scopes_gap vs r us scope h

scopes_values : (vs : List Value) (scope : Addr) → scopes_in scope (dones vs) ≡ scope ∷ []
scopes_values [] scope = refl
scopes_values (v ∷ vs) scope = scopes_values vs scope

-- ---- a task: its parts are in the scope that it has, and around the body of a call another frame begins

task_by : (b : Bool) (outer within : Addr) (now : Terms) (xs ys : List Addr)
    → scopes_in within now ≡ xs
    → reversed_onto (scopes_by b outer within now) ys ≡ reversed_onto xs (if b then outer ∷ ys else ys)
task_by true outer within now xs ys e = ap (λ zs. reversed_onto zs (outer ∷ ys)) e
task_by false outer within now xs ys e = ap (λ zs. reversed_onto zs ys) e

scopes_task : (ts : List (List ℕ)) (t : NodeTable) (root : Addr) (w : Wide) (ws : List Wide) (now later : Terms)
    (xs : List Addr)
    → scope_in (task_form ts t w) (scope_of root ws) ≡ w.inner
    → scopes_in w.inner now ≡ xs
    → reversed_onto (scopes_at (scope_of root ws) (part (task_form ts t w) now later)) (call_scopes root ws)
    ≡ reversed_onto xs (call_scopes root (w ∷ ws))
scopes_task ts t root w ws now later xs s e =
    let outer : Addr = scope_of root ws in
    let ys : List Addr = call_scopes root ws in
    ap (λ zs. reversed_onto zs ys) (scopes_part (task_form ts t w) outer now later)
    ∙ ap (λ b. reversed_onto (scopes_by b outer (scope_in (task_form ts t w) outer) now) ys) (task-leaves ts t w)
    ∙ ap (λ a. reversed_onto (scopes_by (is_frame w.op) outer a now) ys) s
    ∙ task_by (is_frame w.op) outer w.inner now xs ys e

-- ---- all tasks, from the innermost one outward

pub scopes-within : (ts : List (List ℕ)) (t : NodeTable) (root : Addr) (ws : List Wide) (r : Term)
    → is_done r ≡ false
    → InScopes t root ws
    → reversed_onto (scopes_at root (plugged (gaps_of ts t ws) r)) [] ≡ reversed_onto (scopes_at (scope_of root ws) r)
    (call_scopes root ws)
scopes-within ts t root [] r h s = refl
scopes-within ts t root (w ∷ ws) r h s =
    scopes-within ts t root ws (filled (gap_of ts t w) r) refl s.1
    ∙ scopes_task ts t root w ws (gap_parts (gap_of ts t w) r) (later_of ts t w) (scopes_at w.inner r) (s.0 ts)
    (scopes_gap w.values r (gap_of ts t w).after w.inner h)

pub scopes-row : (ts : List (List ℕ)) (t : NodeTable) (root : Addr) (ws : List Wide)
    → IsAt t ws points.Row
    → InScopes t root ws
    → reversed_onto (scopes_at root (term_at ts t ws points.Row)) [] ≡ frame_scopes root ws
unfolding term_at
scopes-row ts t root [] h s = absurd h
scopes-row ts t root (w ∷ ws) h s =
    scopes-within ts t root ws (redex_of ts t w) refl s.1
    ∙ scopes_task ts t root w ws (dones w.values) (later_of ts t w) (w.inner ∷ []) (s.0 ts)
    (scopes_values w.values w.inner)

pub scopes-stands : (ts : List (List ℕ)) (t : NodeTable) (root : Addr) (ws : List Wide) (v : Value) (place : SourceMark)
    → InScopes t root ws
    → reversed_onto (scopes_at root (term_at ts t ws (points.Stands v place))) [] ≡ frame_scopes root ws
unfolding term_at
scopes-stands ts t root ws v place s = scopes-within ts t root ws (standing v place) refl s

pub scopes-done : (ts : List (List ℕ)) (t : NodeTable) (root : Addr) (ws : List Wide) (v : Value)
    → ws ≡ []
    → reversed_onto (scopes_at root (term_at ts t ws (points.Done v))) [] ≡ frame_scopes root ws
unfolding term_at
scopes-done ts t root ws v e =
    ap (λ us. reversed_onto (scopes_at root (plugged (gaps_of ts t us) (done v))) []) e
    ∙ ap (λ us. frame_scopes root us) (sym e)

-- a node without parts has no scope of its own
not_frame : (op : Op) → is_task_only op ≡ false → is_frame op ≡ false
not_frame ops.Frame h = cc
not_frame op h = refl

scopes_node : (ts : List (List ℕ)) (t : NodeTable) (node : Node) (n : ℕ) (scope : Addr)
    → IsNode t n node
    → scopes_at scope (leaf ts t n node) ≡ scope ∷ []
scopes_node ts t node n scope k =
    let f : Form = form_of ts t node.op node.info in
    let same : form_in ts t node.op node.info scope None ≡ f = node-form ts t node.op node.info scope k.source k.turns
    in
    let stays : scope_in f scope ≡ scope = ap (λ g. scope_in g scope) (sym same)
    ∙ node-scope ts t node.op node.info scope scope k.source k.turns in
    let leaves : is_leaving (kind_of f) ≡ false = ap (λ g. is_leaving (kind_of g)) (sym same)
    ∙ ap is_leaving (form-kind ts t node.op node.info scope None)
    ∙ leaving-op t node.op node.info
    ∙ not_frame node.op k.source in
    scopes_part f scope end _
    ∙ ap (λ b. scopes_by b scope (scope_in f scope) end) leaves
    ∙ ap (λ a. a ∷ []) stays

scopes_leaf : (ts : List (List ℕ)) (t : NodeTable) (root : Addr) (ws : List Wide) (n : ℕ) (o : Option Node)
    → slice_get t.nodes.items n ≡ o
    → IsTable t
    → IsLeafAt o
    → InScopes t root ws
    → reversed_onto (scopes_at root (term_at ts t ws (points.Leaf n))) [] ≡ frame_scopes root ws
unfolding term_at
scopes_leaf ts t root ws n None e i l s = absurd l
scopes_leaf ts t root ws n (Some node) e i l s =
    ap (λ x. reversed_onto (scopes_at root (plugged (gaps_of ts t ws) x)) []) (leaf-tree ts t n node e l)
    ∙ scopes-within ts t root ws (leaf ts t n node) refl s
    ∙ ap (λ xs. reversed_onto xs (call_scopes root ws))
    (scopes_node ts t node n (scope_of root ws) (node-at t n node e i))

-- wherever a machine stands
pub scopes-at : (ts : List (List ℕ)) (t : NodeTable) (root : Addr) (ws : List Wide) (p : Point)
    → IsTable t
    → IsAt t ws p
    → InScopes t root ws
    → reversed_onto (scopes_at root (term_at ts t ws p)) [] ≡ frame_scopes root ws
scopes-at ts t root ws points.Row i h s = scopes-row ts t root ws h s
scopes-at ts t root ws (points.Leaf n) i h s = scopes_leaf ts t root ws n (slice_get t.nodes.items n) refl i h s
scopes-at ts t root ws (points.Stands v place) i h s = scopes-stands ts t root ws v place s
scopes-at ts t root ws (points.Done v) i h s = scopes-done ts t root ws v h

-- ---- one task after another

calls_from : (root : Addr) (ws : List Wide) (i : ℕ)
    → call_scopes root (drop i ws) ≡
    (if is_frame_at (slice_get ws i) then scope_of root (drop (suc i) ws) ∷ call_scopes root (drop (suc i) ws)
    else call_scopes root (drop (suc i) ws))
calls_from root [] zero = refl
calls_from root [] (suc i) = refl
calls_from root (w ∷ ws) zero = refl
calls_from root (w ∷ ws) (suc i) = calls_from root ws i

pub calls_at : (root : Addr) (ws : List Wide) (i : ℕ) (b : Bool)
    → b ≡ is_frame_at (slice_get ws i)
    → call_scopes root (drop i ws) ≡
    (if b then scope_of root (drop (i + 1) ws) ∷ call_scopes root (drop (i + 1) ws) else call_scopes root
    (drop (i + 1) ws))
calls_at root ws i b e =
    let s : suc i ≡ i + 1 = omega arith in
    let P : Bool
    → ℕ
    → List Addr = λ c n. if c then scope_of root (drop n ws) ∷ call_scopes root (drop n ws) else call_scopes root
    (drop n ws) in
    calls_from root ws i ∙ ap (λ c. P c (suc i)) (sym e) ∙ ap (P b) s

-- behind the first entry
behind_first : (x : Addr) (xs : List Addr) (d : ℕ) → (d ≡ 0 → ⊥) → slice_get xs (d - 1) ≡ slice_get (x ∷ xs) d
behind_first x xs zero h = absurd (h refl)
behind_first x xs (suc d) h =
    let s : suc d - 1 ≡ d = omega arith in
    ap (λ n. slice_get xs n) s

abbrev pub Left : Addr → List Wide → ℕ → ℕ → ℕ → Type 0
Left root ws d i left = slice_get (call_scopes root ws) (d - 1) ≡ slice_get (call_scopes root (drop i ws)) left

-- it is the scope around this one
pub calls-here : (root : Addr) (ws : List Wide) (d i left : ℕ) (b : Bool) (a : Addr)
    → (d ≡ 0 → ⊥)
    → Left root ws d i left
    → b ≡ is_frame_at (slice_get ws i)
    → b ≡ true
    → left ≡ 0
    → a ≡ scope_of root (drop (i + 1) ws)
    → Some a ≡ slice_get (frame_scopes root ws) d
calls-here root ws d i left b a n h e p z s =
    let P : Bool
    → List Addr = λ c. if c then scope_of root (drop (i + 1) ws) ∷ call_scopes root (drop (i + 1) ws)
    else call_scopes root (drop (i + 1) ws) in
    ap (λ x. Some x) s
    ∙ sym (sym (behind_first (scope_of root ws) (call_scopes root ws) d n)
    ∙ h
    ∙ ap (λ k. slice_get (call_scopes root (drop i ws)) k) z
    ∙ ap (λ xs. slice_get xs 0) (calls_at root ws i b e ∙ ap P p))

-- it isn't
pub calls-passed : (root : Addr) (ws : List Wide) (d i left : ℕ) (b : Bool)
    → Left root ws d i left
    → b ≡ is_frame_at (slice_get ws i)
    → b ≡ true
    → (left ≡ 0 → ⊥)
    → Left root ws d (i + 1) (left - 1)
calls-passed root ws d i left b h e p n =
    let P : Bool
    → List Addr = λ c. if c then scope_of root (drop (i + 1) ws) ∷ call_scopes root (drop (i + 1) ws)
    else call_scopes root (drop (i + 1) ws) in
    h
    ∙ ap (λ xs. slice_get xs left) (calls_at root ws i b e ∙ ap P p)
    ∙ sym (behind_first (scope_of root (drop (i + 1) ws)) (call_scopes root (drop (i + 1) ws)) left n)

-- no call's body is passed
pub calls-on : (root : Addr) (ws : List Wide) (d i left : ℕ) (b : Bool)
    → Left root ws d i left
    → b ≡ is_frame_at (slice_get ws i)
    → b ≡ false
    → Left root ws d (i + 1) left
calls-on root ws d i left b h e p =
    let P : Bool
    → List Addr = λ c. if c then scope_of root (drop (i + 1) ws) ∷ call_scopes root (drop (i + 1) ws)
    else call_scopes root (drop (i + 1) ws) in
    h ∙ ap (λ xs. slice_get xs left) (calls_at root ws i b e ∙ ap P p)

-- there are fewer of them
pub calls-none : (root : Addr) (ws : List Wide) (d i left : ℕ)
    → (d ≡ 0 → ⊥)
    → Left root ws d i left
    → length ws ≤ i
    → None ≡ slice_get (frame_scopes root ws) d
calls-none root ws d i left n h l =
    sym (sym (behind_first (scope_of root ws) (call_scopes root ws) d n)
    ∙ h
    ∙ ap (λ us. slice_get (call_scopes root us) left) (drop_all i ws l))

-- ---- the scope of one task

pub scope-some : (root : Addr) (ws : List Wide) (i : ℕ) (w : Wide)
    → slice_get ws i ≡ Some w
    → w.inner ≡ scope_of root (drop i ws)
scope-some root [] i w h = cc
scope-some root (u ∷ ws) zero w h = let q : u ≡ w = cc in ap (λ (x : Wide). x.inner) (sym q)
scope-some root (u ∷ ws) (suc i) w h = scope-some root ws i w h

pub scope-none : (root : Addr) (ws : List Wide) (i : ℕ) → slice_get ws i ≡ None → root ≡ scope_of root (drop i ws)
scope-none root [] zero h = refl
scope-none root [] (suc i) h = refl
scope-none root (u ∷ ws) zero h = cc
scope-none root (u ∷ ws) (suc i) h = scope-none root ws i h
