-- What holds of the code of a session's workspace.
use Rattle.std.specs.Prelude.{◌≡◌, ◌≤◌, ℕ, List, [], ◌∷◌, ◌++◌, length, Option, Some, None}
use Rattle.js_heap.specs.declared.value.Addr.{Addr}
use Rattle.js_heap.specs.ScratchSpaces.{copied_world}
use Rattle.js_semantics.specs.Evaluation.{next_kept}
use Rattle.js_heap_memory.specs.Heaps.{Heap, heap_world}
use Rattle.js_heap_memory.specs.Names.{GoesOn}
use Rattle.js_heap_memory.specs.Overlays.{Over, OverlayMark, over_world, space_after}
use Rattle.pure_eval.specs.declared.evaluator.Evaluator.{Evaluator}
use Rattle.pure_eval.specs.declared.evaluator.EvaluatorMark.{EvaluatorMark}
use Rattle.pure_eval.specs.declared.holding.HeldCodes.{HeldCodes}
use Rattle.pure_eval.specs.Holding.{AreCodes, HeldSource, held_sources, sources_held}
use Rattle.pure_eval.specs.Returning.{WentOn, IsMarked, IsAgain, IsCode}

-- an evaluator that went on from one which was marked, and that has so many sources
pub record IsWorking (e : Evaluator) (scripts : ℕ) (m : EvaluatorMark) : Type 0 where
  pub code : IsCode e
  pub first : Evaluator
  pub first_code : IsCode first
  pub marked : IsMarked first m
  pub goes_on : WentOn first e
  pub count : length first.table.sources.items ≡ scripts

-- an evaluator that was marked before it had these codes, and whose sources are those of then
pub record IsHolding (e : Evaluator) (scripts : ℕ) (m : EvaluatorMark) (h : HeldCodes) : Type 0 where
  pub before : Evaluator
  pub working : IsWorking before scripts m
  pub marked : IsMarked before h.mark
  pub again : IsAgain before e
  pub codes : AreCodes e.names e.table h.codes.items

-- the same, if it has codes
abbrev pub Holds : Evaluator → ℕ → EvaluatorMark → Option HeldCodes → Type 0
Holds e scripts m None = Unit {0}
Holds e scripts m (Some h) = IsHolding e scripts m h

-- an evaluator of a workspace, and the codes that are held
pub record IsHeld (e : Evaluator) (scripts : ℕ) (m : EvaluatorMark) (held : Option HeldCodes) : Type 0 where
  pub working : IsWorking e scripts m
  pub holds : Holds e scripts m held

-- behind one that has the same sources an evaluator holds the code of one source more
pub record HoldsMore (old new : Evaluator) (scripts : ℕ) (m : EvaluatorMark) (held : Option HeldCodes) (h : HeldCodes)
    (s : HeldSource) : Type 0 where
  pub working : IsWorking new scripts m
  pub holds : IsHolding new scripts m h
  pub again : IsAgain old new
  pub sources : held_sources new.names new.table h.codes.items ≡ sources_held old.names old.table held ++ s ∷ []

-- an evaluator over a program's cells, with those of a session, which went on from one that was marked when it was
-- opened, with the codes that were held then
pub record IsOpen (e : Evaluator) (scripts : ℕ) (start mark : EvaluatorMark) (base : Heap) (world : Over)
    (cells : OverlayMark) (count : ℕ) (next : Addr) (held : Option HeldCodes) : Type 0 where
  pub working : IsWorking e scripts start
  pub before : Evaluator
  pub before_working : IsWorking before scripts start
  pub before_holds : Holds before scripts start held
  pub marked : IsMarked before mark
  pub goes_on : WentOn before e
  pub base_is : world.base ≡ base
  pub ready : (ts : List (List ℕ))
      → over_world ts world ≡ copied_world (heap_world ts base) (space_after (over_world ts world))
  pub marked_cells : cells.count ≡ count
  pub next_is : next ≡ next_kept (space_after (over_world e.names world))

-- a table of names goes on behind another, which has all that a program's cells need
pub record IsKnown (base : Heap) (names own : List (List ℕ)) : Type 0 where
  pub goes_on : GoesOn names own
  pub known : base.ends ≤ length names
