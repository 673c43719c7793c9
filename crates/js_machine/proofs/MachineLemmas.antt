-- What a step and a run make of a machine.
use Rattle.std.proofs.Common.{◌≡◌, ℕ, List, Option, None, ap, subst, ◌∙◌}
use Rattle.js_heap.specs.declared.value.Value.{Value}
use Rattle.js_semantics.specs.State.{State}
use Rattle.js_semantics.specs.Run.{over, run_of}
use Rattle.js_machine_nodes.specs.declared.table.NodeTable.{NodeTable}
use Rattle.js_machine_engine.specs.declared.stepped.Finish.TheVariants as finishes
use Rattle.js_machine_engine.specs.declared.task.Point.{Point}
use Rattle.js_machine_engine.specs.declared.task.Point.TheVariants as points
use Rattle.js_machine_engine.specs.Tasks.{Wide}
use Rattle.js_machine_engine.specs.Points.{term_at, IsAt}
use Rattle.js_machine_engine.specs.Running.{IsRunning}
use Rattle.js_machine_engine.specs.Stepping.{finish_of}
use Rattle.js_machine_engine.proofs.RunLemmas.{at-open, going, open_runs, done_at}
use Rattle.js_machine.specs.declared.end.End.{End}
use Rattle.js_machine.specs.Machines.{StandsUntilEnd}

-- ---- before a step

pub stands-now : (t : NodeTable) (ws : List Wide) (p : Point) (o : Option End)
    → o ≡ None
    → StandsUntilEnd t ws p o
    → StandsUntilEnd t ws p None
stands-now t ws p o e h = let P : Option End → Type 0 = StandsUntilEnd t ws p in subst P e h

-- ---- the end

-- all is reduced to a value
pub done-over : (ts : List (List ℕ)) (table : NodeTable) (ws : List Wide) (p : Point) (v : Value) (s : State)
    → p ≡ points.Done v
    → IsAt table ws p
    → run_of (term_at ts table ws p) s ≡ over (finish_of (finishes.Ended v)) s
done-over ts table ws p v s e at =
    let P : Point → Type 0 = IsAt table ws in
    ap (λ x. run_of (term_at ts table ws x) s) e
    ∙ ap (λ x. run_of (term_at ts table x (points.Done v)) s) (subst P e at)
    ∙ ap (λ x. run_of x s) (done_at ts table v)

-- ---- no end yet

-- something is left to reduce
pub left-running : (ts : List (List ℕ)) (table : NodeTable) (ws : List Wide) (p : Point) (s : State)
    → IsAt table ws p
    → ((v : Value) → p ≡ points.Done v → ⊥)
    → IsRunning (run_of (term_at ts table ws p) s)
left-running ts table ws p s at h = open_runs (term_at ts table ws p) s (at-open ts table ws p at (going p h))
