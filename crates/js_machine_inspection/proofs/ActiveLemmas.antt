-- What is about to be reduced in a machine's term.
use Rattle.std.proofs.Common.{◌≡◌, ℕ, Bool, false, List, [], ◌∷◌, Option, Some, None, slice_get, if◌then◌else◌, refl, sym, ap, subst, ◌∙◌, arith}
use Rattle.js_heap.specs.declared.value.Addr.TheVariants as addrs
use Rattle.js_heap.specs.declared.value.Value.{Value}
use Rattle.js_semantics.specs.declared.form.SourceMark.{SourceMark}
use Rattle.js_semantics.specs.Terms.{Term, Terms, done, standing, part, end, more, joined, dones, is_done}
use Rattle.js_semantics.specs.Frames.{reduces, stands, nothing_left, only_values, inner, behind, active_of, active, leftmost, at, is_debugger}
use Rattle.js_machine_nodes.specs.declared.op.Op.{Op}
use Rattle.js_machine_nodes.specs.declared.node.Node.{Node}
use Rattle.js_machine_nodes.specs.declared.table.NodeTable.{NodeTable}
use Rattle.js_machine_nodes.specs.Forms.{form_of}
use Rattle.js_machine_nodes.specs.Trees.{constant_at, kids_between, terms, node_term, tree_within, tree, IsNode, IsNodeAt, IsTable}
use Rattle.js_machine_engine.specs.declared.task.Point.{Point}
use Rattle.js_machine_engine.specs.declared.task.Point.TheVariants as points
use Rattle.js_machine_engine.specs.Gaps.{Gap, filled, plugged}
use Rattle.js_machine_engine.specs.Tasks.{Wide, gaps_of, task_form, redex_of}
use Rattle.js_machine_engine.specs.Points.{term_at, IsAt, IsLeaf, IsLeafAt}
use Rattle.js_machine_engine.proofs.FinishLemmas.{node-form}
use Rattle.js_machine_nodes.proofs.TreeLemmas.{kids-end}
use Rattle.js_machine_inspection.specs.Kinds.{plain, kind_of, active_kind, op_kind, enters_debugger}
use Rattle.js_machine_inspection.proofs.FrameKinds.{is_debugging}
use Rattle.js_machine_inspection.proofs.KindLemmas.{form-kind, task-kind, debugger-kind, debugging-op}
use Rattle.js_machine_engine.proofs.StepLemmas.{leaf_is}

-- ---- within gaps

leftmost_gap : (vs : List Value) (r : Term) (us : Terms)
    → is_done r ≡ false
    → leftmost (joined (dones vs) (more r us)) ≡ inner (active r)
leftmost_gap [] (done v) us h = cc
leftmost_gap [] (standing v place) us h = refl
leftmost_gap [] (part f now later) us h = refl
leftmost_gap (v ∷ vs) r us h = ap (behind v) (leftmost_gap vs r us h)

-- what is about to be reduced in a part is so in the forms around it
pub active-within : (gs : List Gap) (r : Term) → is_done r ≡ false → active (plugged gs r) ≡ active r
active-within [] r h = refl
active-within (g ∷ gs) r h =
    active-within gs (filled g r) refl ∙ ap (active_of g.form) (leftmost_gap g.before r g.after h)

leftmost_values : (vs : List Value) → leftmost (dones vs) ≡ only_values vs
leftmost_values [] = refl
leftmost_values (v ∷ vs) = ap (behind v) (leftmost_values vs)

-- ---- where a machine stands

pub active-row : (ts : List (List ℕ)) (t : NodeTable) (w : Wide) (ws : List Wide)
    → active (term_at ts t (w ∷ ws) points.Row) ≡ reduces (task_form ts t w) w.values
unfolding term_at
active-row ts t w ws =
    active-within (gaps_of ts t ws) (redex_of ts t w) refl
    ∙ ap (active_of (task_form ts t w)) (leftmost_values w.values)

pub active-stands : (ts : List (List ℕ)) (t : NodeTable) (ws : List Wide) (v : Value) (place : SourceMark)
    → active (term_at ts t ws (points.Stands v place)) ≡ stands v place
unfolding term_at
active-stands ts t ws v place = active-within (gaps_of ts t ws) (standing v place) refl

pub active-done : (ts : List (List ℕ)) (t : NodeTable) (ws : List Wide) (v : Value)
    → ws ≡ []
    → active (term_at ts t ws (points.Done v)) ≡ nothing_left
unfolding term_at
active-done ts t ws v e = ap (λ us. active (plugged (gaps_of ts t us) (done v))) e

-- a node without parts, with the parts that are kept
abbrev pub leaf : List (List ℕ) → NodeTable → ℕ → Node → Term
leaf ts t n node =
    part (form_of ts t node.op node.info) end (terms (tree_within ts t n) (kids_between t node.mid node.end))

pub leaf-tree : (ts : List (List ℕ)) (t : NodeTable) (n : ℕ) (node : Node)
    → slice_get t.nodes.items n ≡ Some node
    → IsLeaf node
    → tree ts t n ≡ leaf ts t n node
unfolding tree
leaf-tree ts t n node e l =
    let at : ℕ → Term = tree_within ts t n in
    let P : Bool
    → Term = λ b. if b then done (constant_at t node.info) else part (form_of ts t node.op node.info)
    (terms at (kids_between t node.first node.mid)) (terms at (kids_between t node.mid node.end)) in
    ap (node_term ts t at) e
    ∙ ap P l.value
    ∙ ap (λ ks. part (form_of ts t node.op node.info) (terms at ks) (terms at (kids_between t node.mid node.end)))
    (kids-end t node.first node.mid (omega (arith, l.parts)))

pub active-leaf : (ts : List (List ℕ)) (t : NodeTable) (ws : List Wide) (n : ℕ) (node : Node)
    → slice_get t.nodes.items n ≡ Some node
    → IsLeaf node
    → active (term_at ts t ws (points.Leaf n)) ≡ reduces (form_of ts t node.op node.info) []
unfolding term_at
active-leaf ts t ws n node e l =
    ap (λ x. active (plugged (gaps_of ts t ws) x)) (leaf-tree ts t n node e l)
    ∙ active-within (gaps_of ts t ws) (leaf ts t n node) refl

pub node-at : (t : NodeTable) (n : ℕ) (node : Node)
    → slice_get t.nodes.items n ≡ Some node
    → IsTable t
    → IsNode t n node
node-at t n node e i =
    let P : Option Node → Type 0 = λ o. IsNodeAt t n o in
    subst P e (i.nodes n)

-- ---- its kind

pub row-kind : (ts : List (List ℕ)) (t : NodeTable) (ws us : List Wide) (w : Wide) (p : Point)
    → p ≡ points.Row
    → ws ≡ w ∷ us
    → active_kind (active (term_at ts t ws p)) ≡ op_kind t w.op w.info
row-kind ts t ws us w p q e =
    ap (λ (x : Point). active_kind (active (term_at ts t ws x))) q
    ∙ ap (λ xs. active_kind (active (term_at ts t xs points.Row))) e
    ∙ ap active_kind (active-row ts t w us)
    ∙ task-kind ts t w

leaf_kind : (ts : List (List ℕ)) (t : NodeTable) (ws : List Wide) (n : ℕ) (node : Node)
    → Some node ≡ slice_get t.nodes.items n
    → IsTable t
    → IsLeafAt (slice_get t.nodes.items n)
    → active_kind (active (term_at ts t ws (points.Leaf n))) ≡ op_kind t node.op node.info
leaf_kind ts t ws n node e i l =
    let k : IsNode t n node = node-at t n node (sym e) i in
    ap active_kind (active-leaf ts t ws n node (sym e) (leaf_is t n node (sym e) l))
    ∙ ap kind_of (sym (node-form ts t node.op node.info (addrs.Base 0) k.source k.turns))
    ∙ form-kind ts t node.op node.info (addrs.Base 0) None

pub leaf-kind : (ts : List (List ℕ)) (t : NodeTable) (ws : List Wide) (n : ℕ) (node : Node) (p : Point)
    → p ≡ points.Leaf n
    → Some node ≡ slice_get t.nodes.items n
    → IsTable t
    → IsAt t ws p
    → active_kind (active (term_at ts t ws p)) ≡ op_kind t node.op node.info
leaf-kind ts t ws n node p q e i h =
    let P : Point → Type 0 = λ x. IsAt t ws x in
    ap (λ (x : Point). active_kind (active (term_at ts t ws x))) q ∙ leaf_kind ts t ws n node e i (subst P q h)

pub stands-kind : (ts : List (List ℕ)) (t : NodeTable) (ws : List Wide) (v : Value) (place : SourceMark) (p : Point)
    → p ≡ points.Stands v place
    → active_kind (active (term_at ts t ws p)) ≡ plain
stands-kind ts t ws v place p q =
    ap (λ (x : Point). active_kind (active (term_at ts t ws x))) q ∙ ap active_kind (active-stands ts t ws v place)

pub done-kind : (ts : List (List ℕ)) (t : NodeTable) (ws : List Wide) (v : Value) (p : Point)
    → p ≡ points.Done v
    → IsAt t ws p
    → active_kind (active (term_at ts t ws p)) ≡ plain
done-kind ts t ws v p q h =
    let P : Point → Type 0 = λ x. IsAt t ws x in
    ap (λ (x : Point). active_kind (active (term_at ts t ws x))) q
    ∙ ap active_kind (active-done ts t ws v (subst P q h))

-- ---- what it says

pub debugger-some : (x : Term) (t : NodeTable) (op : Op) (info : ℕ)
    → active_kind (active x) ≡ op_kind t op info
    → is_debugger (active x) ≡ enters_debugger op
debugger-some x t op info e = debugger-kind (active x) ∙ ap is_debugging e ∙ debugging-op t op info

pub debugger-none : (x : Term) → active_kind (active x) ≡ plain → is_debugger (active x) ≡ false
debugger-none x e = debugger-kind (active x) ∙ ap is_debugging e
