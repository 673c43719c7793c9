-- Lemmas that make a row's clause the clause of the table of steps.
use Rattle.std.proofs.Common.{◌≡◌, ℕ, ap, sym, ◌∙◌, subst, List}
use Rattle.js_heap.specs.declared.value.Addr.{Addr}
use Rattle.js_semantics.specs.declared.form.Form.{Form}
use Rattle.js_semantics.specs.State.{State}
use Rattle.js_semantics.specs.Next.{scope_in}
use Rattle.js_semantics.specs.Rows.{row}
use Rattle.js_machine_nodes.specs.declared.op.Op.{Op}
use Rattle.js_machine_nodes.specs.declared.table.NodeTable.{NodeTable}
use Rattle.js_machine_nodes.specs.Trees.{program_of}
use Rattle.js_machine_engine.specs.declared.reduced.Reduced.{Reduced}
use Rattle.js_machine_engine.specs.Tasks.{Wide, task_form, form_in, later_of}
use Rattle.js_machine_engine.specs.Rows.{RowOf}
use Rattle.js_machine_rows.specs.Does.{Does}

-- the form of a task, by what it does
pub form-by : (ts : List (List ℕ)) (t : NodeTable) (e : Wide) (o : Op)
    → e.op ≡ o
    → task_form ts t e ≡ form_in ts t o e.info e.inner e.extra
unfolding task_form
form-by ts t e o h = ap (λ x. form_in ts t x e.info e.inner e.extra) h

-- a form that has no scope of its own is in the scope of its parts
pub row-by : (ts : List (List ℕ)) (t : NodeTable) (e : Wide) (f : Form) (outer : Addr) (s : State) (r : Reduced)
    (u : State)
    → task_form ts t e ≡ f
    → scope_in f outer ≡ outer →
    Does ts t e (row (program_of ts t) s e.inner f e.values (later_of ts t e)) s r u → RowOf ts t e outer s r u
row-by ts t e f outer s r u h g d = λ k.
    let o : e.inner ≡ outer = sym k ∙ ap (λ x. scope_in x outer) h ∙ g in
    let P : Addr → Type 0 = λ a. Does ts t e (row (program_of ts t) s a f e.values (later_of ts t e)) s r u in
    let Q : Form → Type 0 = λ x. Does ts t e (row (program_of ts t) s outer x e.values (later_of ts t e)) s r u in
    subst Q (sym h) (subst P o d)

-- and one that has one takes its row whatever is around it
pub row-within : (ts : List (List ℕ)) (t : NodeTable) (e : Wide) (f : Form) (outer : Addr) (s : State) (r : Reduced)
    (u : State)
    → task_form ts t e ≡ f →
    Does ts t e (row (program_of ts t) s outer f e.values (later_of ts t e)) s r u → RowOf ts t e outer s r u
row-within ts t e f outer s r u h d = λ k.
    let Q : Form → Type 0 = λ x. Does ts t e (row (program_of ts t) s outer x e.values (later_of ts t e)) s r u in
    subst Q (sym h) d
