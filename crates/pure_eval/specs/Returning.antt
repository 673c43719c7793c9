-- Evaluators that went on from what they were, and come back to it.
use Rattle.std.specs.Prelude.{◌≡◌, ◌≤◌, ℕ, List, [], ◌∷◌, ◌++◌, length}
use Rattle.js_semantics.specs.Terms.{Term}
use Rattle.js_semantics.specs.Functions.{Program, SourceTree}
use Rattle.js_heap_memory.specs.Heaps.{Heap}
use Rattle.js_heap_memory.specs.Names.{GoesOn}
use Rattle.js_heap_memory.specs.Overlays.{next_of}
use Rattle.js_machine_nodes.specs.declared.node.SourceEntry.{SourceEntry}
use Rattle.js_machine_nodes.specs.Trees.{program_of}
use Rattle.pure_eval.specs.declared.evaluated.Evaluated.{Evaluated}
use Rattle.pure_eval.specs.declared.evaluated.Evaluated.TheVariants as ends
use Rattle.pure_eval.specs.declared.evaluator.Added.{Added}
use Rattle.pure_eval.specs.declared.evaluator.Evaluator.{Evaluator}
use Rattle.pure_eval.specs.declared.evaluator.EvaluatorMark.{EvaluatorMark}
use Rattle.pure_eval.specs.Whole.{IsWhole}
use Rattle.pure_eval.specs.Adding.{GoesOnWith, IsAdded}
use Rattle.pure_eval.specs.Cutting.{IsMarkOf}
use Rattle.pure_eval.specs.Evaluators.{Runs, IsBehind}

-- an evaluator went on from what it was: its names and its sources are those of before and more
pub record WentOn (old new : Evaluator) : Type 0 where
  pub names : GoesOn old.names new.names
  pub entries : List SourceEntry
  pub table : GoesOnWith old.table new.table entries
  pub whole : IsWhole new.table

-- behind an evaluation an evaluator went on; after want of memory it is given up
abbrev pub WentOnAfter : Evaluated → Evaluator → Evaluator → Type 0
WentOnAfter ends.Memory old new = Unit {0}
WentOnAfter end old new = WentOn old new

-- where an evaluator's code, its kept sources and its names ended
pub record IsMarked (e : Evaluator) (m : EvaluatorMark) : Type 0 where
  pub table : IsMarkOf e.table m.table
  pub next : m.next ≡ e.next
  pub names : m.names ≡ length e.names

-- an evaluator has the code again that it had
pub record IsAgain (old new : Evaluator) : Type 0 where
  pub goes_on : WentOn old new
  pub next : new.next ≡ old.next
  pub runs : (p : Program) → Runs old p → Runs new p
  pub program : (ts : List (List ℕ)) → program_of ts new.table ≡ program_of ts old.table

-- an evaluator went on from one that had the code of a program when it was marked
pub record CameFrom (m : EvaluatorMark) (p : Program) (e : Evaluator) : Type 0 where
  pub first : Evaluator
  pub runs : Runs first p
  pub marked : IsMarked first m
  pub goes_on : WentOn first e

-- behind an evaluation an evaluator still came from there; after want of memory it is given up
abbrev pub CameAfter : Evaluated → EvaluatorMark → Program → Evaluator → Type 0
CameAfter ends.Memory m p e = Unit {0}
CameAfter end m p e = CameFrom m p e

-- a source was added at the next address of a session's cells, whose names the evaluator knew
pub record HasAdded (old new : Evaluator) (base scratch : Heap) (x : Term) (a : Added) : Type 0 where
  pub behind : IsBehind (next_of scratch) old.next a.next
  pub base_known : base.ends ≤ length old.names
  pub scratch_known : scratch.ends ≤ length old.names
  pub marked : IsMarkOf old.table a.mark
  pub source : IsAdded old.names old.table (next_of scratch) x new.names new.table a.node
  pub next : new.next ≡ old.next

-- an evaluator runs the program of its table, which is the same however the names go on
pub record IsCode (e : Evaluator) : Type 0 where
  pub runs : Runs e (program_of e.names e.table)
  pub steady : (us : List (List ℕ)) → GoesOn e.names us → program_of us e.table ≡ program_of e.names e.table

-- an evaluator of a program, and of no other sources
pub record IsCodeOf (e : Evaluator) (p : Program) : Type 0 where
  pub code : IsCode e
  pub program : program_of e.names e.table ≡ p

-- behind an evaluation an evaluator has one source more, or the same; after want of memory it is given up
abbrev pub CodeAfter : Evaluated → Evaluator → Program → SourceTree → Type 0
CodeAfter (ends.Value v) new p s = IsCodeOf new (p ++ s ∷ [])
CodeAfter (ends.Thrown v) new p s = IsCodeOf new (p ++ s ∷ [])
CodeAfter ends.Memory new p s = Unit {0}
CodeAfter end new p s = IsCodeOf new p
