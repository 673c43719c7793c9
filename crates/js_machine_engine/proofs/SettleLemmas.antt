-- From the parts of a task to what comes next.
use Rattle.std.proofs.Common.{◌≡◌, ℕ, ◌<◌, true, List, [], ◌∷◌, ◌++◌, Option, None, Some, slice_get, refl, sym, ap, subst, ◌∙◌, arith, if◌then◌else◌}
use Rattle.js_heap.specs.declared.value.Addr.{Addr}
use Rattle.js_heap.specs.declared.value.Value.{Value}
use Rattle.js_semantics.specs.declared.form.Form.{Form}
use Rattle.js_semantics.specs.Terms.{Term, done, part, Terms, dones, all_done, finished, settled}
use Rattle.js_semantics.specs.Next.{scope_in}
use Rattle.js_machine_nodes.specs.declared.table.NodeTable.{NodeTable}
use Rattle.js_machine_nodes.specs.Trees.{tree, trees}
use Rattle.js_machine_engine.specs.Gaps.{Gap, gap_parts, plugged, resettled}
use Rattle.js_machine_engine.specs.Tasks.{Wide, task_form, later_of, gap_of, gaps_of, scope_of, InScopes}
use Rattle.js_machine_engine.specs.Points.{row_term, IsAtRow}
use Rattle.js_machine_engine.specs.Stacks.{values_of, with_value, outer_of}
use Rattle.js_machine_engine.specs.Parts.{IsOpen, at_of, parts_of, parts_with, moved, IsNextPart}
use Rattle.js_machine_engine.specs.Settling.{settled_row}
use Rattle.js_machine_engine.proofs.SettledParts.{settled_parts}
use Rattle.js_machine_engine.proofs.TreeLemmas.{open-tree}
use Rattle.js_machine_engine.proofs.PartLemmas.{joined-value}
use Rattle.js_machine_engine.proofs.GapLemmas.{plugged-resettled, settled_filled}

-- ---- a part that is no value

all_values : (vs : List Value) → all_done (dones vs) ≡ true
all_values [] = refl
all_values (v ∷ vs) = all_values vs

pub settled-values : (f : Form) (vs : List Value) (later : Terms)
    → settled f (dones vs) later ≡ finished f (dones vs) later
settled-values f vs later = ap (λ b. if b then finished f (dones vs) later else part f (dones vs) later) (all_values vs)

pub resettled-part : (gs : List Gap) (f : Form) (now later : Terms)
    → resettled gs (part f now later) ≡ plugged gs (part f now later)
resettled-part gs f now later = plugged-resettled gs (part f now later) refl

-- ---- after the values of the literal parts

-- what is settled, by the next part
abbrev pub after_parts : List (List ℕ) → NodeTable → List Wide → Option ℕ → Term
after_parts ts t ws None = settled_row ts t ws
after_parts ts t ws (Some n) = plugged (gaps_of ts t ws) (tree ts t n)

abbrev pub within_parts : List (List ℕ) → NodeTable → List Wide → Option ℕ → Term
within_parts ts t ws None = row_term ts t ws
within_parts ts t ws (Some n) = plugged (gaps_of ts t ws) (tree ts t n)

moved_form : (ts : List (List ℕ)) (t : NodeTable) (w : Wide) (at : ℕ) (vs : List Value)
    → task_form ts t (record w { at = at; values = vs }) ≡ task_form ts t w
unfolding task_form
moved_form ts t w at vs = refl

abbrev IsOpenIfSome : NodeTable → Option ℕ → Type 0
IsOpenIfSome t None = Unit {0}
IsOpenIfSome t (Some n) = IsOpen (slice_get t.nodes.items n)

open_if : (t : NodeTable) (old new : List Wide) (n : Option ℕ) → IsNextPart t old new n → IsOpenIfSome t n
open_if t old new None i = tt
open_if t old new (Some n) i = i.part.form

-- settled, by what the parts are
settled_by : (ts : List (List ℕ)) (t : NodeTable) (w : Wide) (ws : List Wide) (n : Option ℕ)
    → IsOpenIfSome t n
    → resettled (gaps_of ts t ws) (settled (task_form ts t w) (parts_with ts t (w ∷ ws) n) (later_of ts t w))
    ≡ after_parts ts t (w ∷ ws) n
settled_by ts t w ws None o =
    ap (resettled (gaps_of ts t ws)) (settled-values (task_form ts t w) w.values (later_of ts t w))
settled_by ts t w ws (Some n) o =
    ap (resettled (gaps_of ts t ws)) (settled_filled (gap_of ts t w) (tree ts t n) (open-tree ts t n o))
    ∙ resettled-part (gaps_of ts t ws) (task_form ts t w) (gap_parts (gap_of ts t w) (tree ts t n)) (later_of ts t w)

within_by : (ts : List (List ℕ)) (t : NodeTable) (w : Wide) (ws : List Wide) (n : Option ℕ)
    → plugged (gaps_of ts t ws) (part (task_form ts t w) (parts_with ts t (w ∷ ws) n) (later_of ts t w))
    ≡ within_parts ts t (w ∷ ws) n
within_by ts t w ws None = refl
within_by ts t w ws (Some n) = refl

settled_none : (ts : List (List ℕ)) (t : NodeTable) (new : List Wide) (n : Option ℕ)
    → IsNextPart t [] new n
    → settled_parts ts t [] ≡ after_parts ts t new n
settled_none ts t new None i = ap (settled_row ts t) (sym i.same)
settled_none ts t new (Some n) i = absurd (let h : n < 0 = i.part.below 0 tt in omega arith)

-- the term when the parts of the innermost task have made a step
pub parts-settled : (ts : List (List ℕ)) (t : NodeTable) (old new : List Wide) (n : Option ℕ)
    → IsNextPart t old new n
    → settled_parts ts t old ≡ after_parts ts t new n
parts-settled ts t [] new n i = settled_none ts t new n i
parts-settled ts t (w ∷ ws) new n i =
    let u : Wide = record w { at = at_of new; values = values_of new } in
    ap (λ now. resettled (gaps_of ts t ws) (settled (task_form ts t w) now (later_of ts t w)))
    (i.parts ts ∙ ap (λ x. parts_with ts t x n) i.same)
    ∙ ap (λ f. resettled (gaps_of ts t ws) (settled f (parts_with ts t (u ∷ ws) n) (later_of ts t w)))
    (sym (moved_form ts t w (at_of new) (values_of new)))
    ∙ settled_by ts t u ws n (open_if t (w ∷ ws) new n i)
    ∙ ap (λ x. after_parts ts t x n) (sym i.same)

-- the term on the way inward, where no form gives way
pub parts-within : (ts : List (List ℕ)) (t : NodeTable) (w : Wide) (ws new : List Wide) (n : Option ℕ)
    → IsNextPart t (w ∷ ws) new n
    → plugged (gaps_of ts t ws) (part (task_form ts t w) (parts_of ts t (w ∷ ws)) (later_of ts t w))
    ≡ within_parts ts t new n
parts-within ts t w ws new n i =
    let u : Wide = record w { at = at_of new; values = values_of new } in
    ap (λ now. plugged (gaps_of ts t ws) (part (task_form ts t w) now (later_of ts t w)))
    (i.parts ts ∙ ap (λ x. parts_with ts t x n) i.same)
    ∙ ap (λ f. plugged (gaps_of ts t ws) (part f (parts_with ts t (u ∷ ws) n) (later_of ts t w)))
    (sym (moved_form ts t w (at_of new) (values_of new)))
    ∙ within_by ts t u ws n
    ∙ ap (λ x. within_parts ts t x n) (sym i.same)

pub value_form : (ts : List (List ℕ)) (t : NodeTable) (w : Wide) (vs : List Value)
    → task_form ts t (record w { values = vs }) ≡ task_form ts t w
unfolding task_form
value_form ts t w vs = refl

-- a value in the innermost gap
pub value-settled : (ts : List (List ℕ)) (t : NodeTable) (w : Wide) (ws : List Wide) (v : Value)
    → resettled (gaps_of ts t (w ∷ ws)) (done v) ≡ settled_parts ts t (with_value v (w ∷ ws))
value-settled ts t w ws v =
    ap (λ now. resettled (gaps_of ts t ws) (settled (task_form ts t w) now (later_of ts t w)))
    (sym (joined-value w.values v (trees ts t w.at w.mid)))
    ∙ ap (λ f. resettled (gaps_of ts t ws) (settled f (parts_of ts t (with_value v (w ∷ ws))) (later_of ts t w)))
    (sym (value_form ts t w (w.values ++ v ∷ [])))

-- ---- what stays when the parts get their values

pub scopes-moved : (t : NodeTable) (root : Addr) (at : ℕ) (vs : List Value) (old : List Wide)
    → InScopes t root old
    → InScopes t root (moved at vs old)
scopes-moved t root at vs [] i = tt
scopes-moved t root at vs (w ∷ ws) i =
    (λ ts. ap (λ f. scope_in f (scope_of root ws)) (moved_form ts t w at vs) ∙ i.0 ts, i.1)

pub scopes-value : (t : NodeTable) (root : Addr) (v : Value) (old : List Wide)
    → InScopes t root old
    → InScopes t root (with_value v old)
scopes-value t root v [] i = tt
scopes-value t root v (w ∷ ws) i =
    (λ ts. ap (λ f. scope_in f (scope_of root ws)) (value_form ts t w (w.values ++ v ∷ [])) ∙ i.0 ts, i.1)

pub scope-moved : (root : Addr) (at : ℕ) (vs : List Value) (old : List Wide)
    → scope_of root (moved at vs old) ≡ scope_of root old
scope-moved root at vs [] = refl
scope-moved root at vs (w ∷ ws) = refl

pub scope-value : (root : Addr) (v : Value) (old : List Wide) → scope_of root (with_value v old) ≡ scope_of root old
scope-value root v [] = refl
scope-value root v (w ∷ ws) = refl

pub scopes-next : (t : NodeTable) (root : Addr) (old new : List Wide) (n : Option ℕ)
    → IsNextPart t old new n
    → InScopes t root old
    → InScopes t root new
scopes-next t root old new n i s =
    let P : List Wide → Type 0 = InScopes t root in
    subst P (sym i.same) (scopes-moved t root (at_of new) (values_of new) old s)

pub scope-next : (t : NodeTable) (root : Addr) (old new : List Wide) (n : Option ℕ)
    → IsNextPart t old new n
    → scope_of root new ≡ scope_of root old
scope-next t root old new n i = ap (scope_of root) i.same ∙ scope-moved root (at_of new) (values_of new) old

pub outer-next : (t : NodeTable) (old new : List Wide) (n : Option ℕ)
    → IsNextPart t old new n
    → outer_of new ≡ outer_of old
outer-next t old new n i = ap outer_of i.same ∙ outer_moved (at_of new) (values_of new) old
  where
    outer_moved : (at : ℕ) (vs : List Value) (old : List Wide) → outer_of (moved at vs old) ≡ outer_of old
    outer_moved at vs [] = refl
    outer_moved at vs (w ∷ ws) = refl

-- all parts have values
pub row-next : (t : NodeTable) (w : Wide) (ws new : List Wide) → IsNextPart t (w ∷ ws) new None → IsAtRow new
row-next t w ws new i =
    let P : List Wide → Type 0 = IsAtRow in
    subst P (sym i.same) i.part
