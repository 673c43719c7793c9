-- A throw that stands is caught where a task around it catches.
use Rattle.std.proofs.Common.{◌≡◌, ℕ, zero, suc, ◌+◌, Bool, true, false, not, List, [], ◌∷◌, drop, Option, Some, None, slice_get, if◌then◌else◌, refl, sym, ap, ◌∙◌, arith}
use Rattle.js_heap.specs.declared.value.Value.{Value}
use Rattle.js_semantics.specs.declared.form.Form.{Form}
use Rattle.js_semantics.specs.declared.form.SourceMark.{SourceMark}
use Rattle.js_semantics.specs.Terms.{Term, Terms, done, standing, part, more, joined, dones, is_done}
use Rattle.js_semantics.specs.Frames.{reduces, stands, active, is_catching, is_caught, is_caught_in, standing_of, thrown}
use Rattle.js_machine_nodes.specs.declared.node.Node.{Node}
use Rattle.js_machine_nodes.specs.declared.table.NodeTable.{NodeTable}
use Rattle.js_machine_nodes.specs.Forms.{form_of}
use Rattle.js_machine_engine.specs.declared.task.Point.{Point}
use Rattle.js_machine_engine.specs.declared.task.Point.TheVariants as points
use Rattle.js_machine_engine.specs.Gaps.{Gap, filled, plugged}
use Rattle.js_machine_engine.specs.Tasks.{Wide, gap_of, gaps_of, task_form}
use Rattle.js_machine_engine.specs.Points.{term_at, IsAt, IsLeafAt}
use Rattle.js_machine_inspection.specs.Catchers.{is_catcher, catches_at, catches, standing_throw}
use Rattle.js_machine_inspection.proofs.KindLemmas.{task-catches}
use Rattle.js_machine_inspection.proofs.ActiveLemmas.{active-row, active-stands, active-done, active-leaf}

-- ---- in gaps

caught_gap : (vs : List Value) (r : Term) (us : Terms)
    → is_done r ≡ false
    → is_caught_in (joined (dones vs) (more r us)) ≡ is_caught r
caught_gap [] (done v) us h = cc
caught_gap [] (standing v place) us h = refl
caught_gap [] (part f now later) us h = refl
caught_gap (v ∷ vs) r us h = caught_gap vs r us h

caught_filled : (g : Gap) (r : Term)
    → is_done r ≡ false
    → is_caught (filled g r) ≡ (if is_catching g.form then true else is_caught r)
caught_filled g r h = ap (λ b. if is_catching g.form then true else b) (caught_gap g.before r g.after h)

either_or : (b c : Bool) (d : Bool)
    → (if (if b then true else c) then true else d) ≡ (if c then true else (if b then true else d))
either_or true true d = refl
either_or true false d = refl
either_or false c d = refl

or_none : (b : Bool) → b ≡ (if b then true else false)
or_none true = refl
or_none false = refl

caught_within : (ts : List (List ℕ)) (t : NodeTable) (ws : List Wide) (r : Term)
    → is_done r ≡ false
    → is_caught (plugged (gaps_of ts t ws) r) ≡ (if is_caught r then true else catches ws)
caught_within ts t [] r h = or_none (is_caught r)
caught_within ts t (w ∷ ws) r h =
    caught_within ts t ws (filled (gap_of ts t w) r) refl
    ∙ ap (λ b. if b then true else catches ws) (caught_filled (gap_of ts t w) r h)
    ∙ ap (λ b. if (if b then true else is_caught r) then true else catches ws) (task-catches ts t w)
    ∙ either_or (is_catcher w.op) (is_caught r) (catches ws)

caught_stands : (ts : List (List ℕ)) (t : NodeTable) (ws : List Wide) (v : Value) (place : SourceMark)
    → is_caught (term_at ts t ws (points.Stands v place)) ≡ catches ws
unfolding term_at
caught_stands ts t ws v place = caught_within ts t ws (standing v place) refl

-- ---- throws

stands_throw : (ts : List (List ℕ)) (t : NodeTable) (ws : List Wide) (v : Value) (place : SourceMark)
    → thrown (term_at ts t ws (points.Stands v place)) ≡ Some (record { value = v; uncaught = not (catches ws) })
stands_throw ts t ws v place =
    let x : Term = term_at ts t ws (points.Stands v place) in
    ap (λ a. standing_of a (is_caught x)) (active-stands ts t ws v place)
    ∙ ap (λ b. standing_of (stands v place) b) (caught_stands ts t ws v place)

pub stands-throw : (ts : List (List ℕ)) (t : NodeTable) (ws : List Wide) (v : Value) (place : SourceMark) (p : Point)
    (b : Bool)
    → p ≡ points.Stands v place
    → b ≡ catches ws
    → standing_throw (Some (record { value = v; uncaught = not b })) ≡ thrown (term_at ts t ws p)
stands-throw ts t ws v place p b q e =
    ap (λ c. standing_throw (Some (record { value = v; uncaught = not c }))) e
    ∙ sym (stands_throw ts t ws v place)
    ∙ ap (λ (x : Point). thrown (term_at ts t ws x)) (sym q)

none_of : (x : Term) (f : Form) (vs : List Value) → active x ≡ reduces f vs → None ≡ thrown x
none_of x f vs e = sym (ap (λ a. standing_of a (is_caught x)) e)

none_row : (ts : List (List ℕ)) (t : NodeTable) (ws : List Wide)
    → IsAt t ws points.Row
    → None ≡ thrown (term_at ts t ws points.Row)
none_row ts t [] h = absurd h
none_row ts t (w ∷ ws) h = none_of (term_at ts t (w ∷ ws) points.Row) (task_form ts t w) w.values (active-row ts t w ws)

none_leaf : (ts : List (List ℕ)) (t : NodeTable) (ws : List Wide) (n : ℕ) (o : Option Node)
    → slice_get t.nodes.items n ≡ o
    → IsLeafAt o
    → None ≡ thrown (term_at ts t ws (points.Leaf n))
none_leaf ts t ws n None e l = absurd l
none_leaf ts t ws n (Some node) e l =
    none_of (term_at ts t ws (points.Leaf n)) (form_of ts t node.op node.info) [] (active-leaf ts t ws n node e l)

none_done : (ts : List (List ℕ)) (t : NodeTable) (ws : List Wide) (v : Value)
    → ws ≡ []
    → None ≡ thrown (term_at ts t ws (points.Done v))
none_done ts t ws v h =
    let x : Term = term_at ts t ws (points.Done v) in
    sym (ap (λ a. standing_of a (is_caught x)) (active-done ts t ws v h))

-- elsewhere none stands
pub no-throw : (ts : List (List ℕ)) (t : NodeTable) (ws : List Wide) (p : Point)
    → ((v : Value) (place : SourceMark) → p ≡ points.Stands v place → ⊥)
    → IsAt t ws p
    → None ≡ thrown (term_at ts t ws p)
no-throw ts t ws points.Row n h = none_row ts t ws h
no-throw ts t ws (points.Leaf i) n h = none_leaf ts t ws i (slice_get t.nodes.items i) refl h
no-throw ts t ws (points.Stands v place) n h = absurd (n v place refl)
no-throw ts t ws (points.Done v) n h = none_done ts t ws v h

-- ---- one task after another

catches_from : (ws : List Wide) (i : ℕ)
    → catches (drop i ws) ≡ (if catches_at (slice_get ws i) then true else catches (drop (suc i) ws))
catches_from [] zero = refl
catches_from [] (suc i) = refl
catches_from (w ∷ ws) zero = refl
catches_from (w ∷ ws) (suc i) = catches_from ws i

pub catches-here : (ws : List Wide) (i : ℕ) (b : Bool)
    → catches ws ≡ catches (drop i ws)
    → b ≡ catches_at (slice_get ws i)
    → b ≡ true
    → true ≡ catches ws
catches-here ws i b h e p =
    let P : Bool → Bool = λ c. if c then true else catches (drop (suc i) ws) in
    sym (h ∙ catches_from ws i ∙ ap P (sym e ∙ p))

pub catches-on : (ws : List Wide) (i : ℕ) (b : Bool)
    → catches ws ≡ catches (drop i ws)
    → b ≡ catches_at (slice_get ws i)
    → b ≡ false
    → catches ws ≡ catches (drop (i + 1) ws)
catches-on ws i b h e p =
    let P : Bool → Bool = λ c. if c then true else catches (drop (suc i) ws) in
    let s : suc i ≡ i + 1 = omega arith in
    h ∙ catches_from ws i ∙ ap P (sym e ∙ p) ∙ ap (λ n. catches (drop n ws)) s
