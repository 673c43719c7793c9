-- Calls of functions.
use Rattle.std.specs.Prelude.{◌≡◌, ℕ, Option, None, Some, List, [], ◌∷◌, ◌++◌, slice_get}
use Rattle.js_heap.specs.declared.value.Addr.{Addr}
use Rattle.js_heap.specs.declared.value.Value.{Value}
use Rattle.js_heap.specs.declared.value.Value.TheVariants as values
use Rattle.js_heap.specs.BuiltIns.{script_scope}
use Rattle.js_heap.specs.ScratchSpaces.{ScratchSpace}
use Rattle.js_heap.specs.World.{World, fine}
use Rattle.js_heap.specs.Worlds.{Keeps}
use Rattle.js_semantics.specs.Evaluation.{Answer, Argument, answer_of, answered, call_with_values, evaluated, prepared, with_arguments, with_source}
use Rattle.js_semantics.specs.Functions.{Program}
use Rattle.js_semantics.specs.Makers.{MadeExpression}
use Rattle.js_semantics.specs.Run.{Run, run_of, steps_in}
use Rattle.js_semantics.specs.State.{State}
use Rattle.js_semantics.specs.Terms.{Term, done}
use Rattle.js_semantics.specs.declared.form.Form.TheVariants.{Call as call}
use Rattle.js_semantics.specs.declared.form.Mark.TheVariants.{Beginning as beginning}
use Rattle.js_machine_nodes.specs.declared.table.NodeTable.{NodeTable}
use Rattle.js_machine_nodes.specs.Forms.{call_form}
use Rattle.js_machine_nodes.specs.Trees.{program_of}
use Rattle.js_machine_engine.specs.Tasks.{Wide}
use Rattle.js_machine_engine.specs.declared.stepped.Stepped.{Stepped}
use Rattle.js_machine_engine.specs.declared.stepped.Stepped.TheVariants as steppeds
use Rattle.pure_eval.specs.declared.calling.Callee.{Callee}
use Rattle.pure_eval.specs.declared.calling.Callee.TheVariants as callees
use Rattle.pure_eval.specs.declared.evaluated.Evaluated.{Evaluated}
use Rattle.pure_eval.specs.declared.evaluated.Evaluated.TheVariants as ends
use Rattle.pure_eval.specs.declared.work.Work.{Work}
use Rattle.pure_eval.specs.declared.work.Work.TheVariants as works
use Rattle.pure_eval.specs.Answering.{Answers, EndsIn, finished}
use Rattle.pure_eval.specs.Arguments.{arguments_of}
use Rattle.pure_eval.specs.Whole.{IsWhole}

-- ---- what becomes of a source

-- a callee that is ready in a world is called with a `this` and arguments
abbrev pub called : Program → Value → List Argument → World → Term → Answer
called p receiver arguments w callee =
    answered (with_arguments receiver arguments (fine callee w)) (evaluated p script_scope values.Undefined)

-- the answer for a term that is ready in a world
abbrev pub worked : Program → Work → World → Term → Answer
worked p (works.Expression scope receiver) = evaluated p scope receiver
worked p (works.Call receiver arguments) = called p receiver (arguments_of arguments.now)

-- the answer for a source
abbrev pub work_of : Program → World → ScratchSpace → List ℕ → List (List ℕ) → MadeExpression → Work → Answer
work_of p w x source order e work = answered (prepared w x source order e) (worked (with_source p x e) work)

-- in an evaluation, what isn't its own stays; want of memory says nothing
abbrev pub KeepsTo : Evaluated → World → World → Type 0
KeepsTo ends.Memory w v = Unit {0}
KeepsTo end w v = Keeps w v

-- ---- the entry of a call that stands in no statement

-- the call of this number stands in no statement
abbrev pub HasCall : NodeTable → ℕ → Type 0
HasCall t n = call_form (slice_get t.calls.items n) ≡ call beginning 0

-- a table that means the same, with the entry of such a call
pub record IsCallAdded (t u : NodeTable) (n : ℕ) : Type 0 where
  pub whole : IsWhole t → IsWhole u
  pub program : IsWhole t → (ts : List (List ℕ)) → program_of ts u ≡ program_of ts t
  pub there : HasCall u n

-- ---- the steps of a call

-- how an evaluation ends with a step, if it ends there
abbrev pub end_with : Stepped → Option Evaluated
end_with (steppeds.Over f) = Some (finished f)
end_with steppeds.Effect = Some ends.Effect
end_with (steppeds.Full what) = Some (ends.Full what)
end_with steppeds.Memory = Some ends.Memory
end_with stepped = None

-- what the run of a call comes to that begins with its callee: the call of a value, with the steps that are left, or an
-- end
abbrev pub ComesTo : Program → Addr → ℕ → Run → Value → List Value → Callee → State → Type 0
ComesTo p root most first receiver arguments (callees.Reduced v left) s =
    steps_in most p root first ≡ steps_in left p root (run_of (call_with_values receiver (done v) arguments) s)
ComesTo p root most first receiver arguments (callees.Ended end) s =
    Answers (answer_of (steps_in most p root first)) end s.world × EndsIn (steps_in most p root first) end s.world

-- the innermost task has more values
abbrev pub with_values : List Value → List Wide → List Wide
with_values vs [] = []
with_values vs (w ∷ ws) = record w { values = w.values ++ vs } ∷ ws
