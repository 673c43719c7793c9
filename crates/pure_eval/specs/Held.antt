-- What is kept for the evaluations of a session: what they go on from, the names with which that began, and the sources
-- of which the code is held.
use Rattle.std.specs.Prelude.{ℕ, List, Option, take}
use Rattle.js_heap_memory.specs.Heaps.{Heap}
use Rattle.js_heap_memory.specs.Overlays.{OverlayMark, Over}
use Rattle.pure_eval.specs.declared.evaluator.Evaluator.{Evaluator}
use Rattle.pure_eval.specs.declared.evaluator.EvaluatorMark.{EvaluatorMark}
use Rattle.pure_eval.specs.declared.holding.HeldCodes.{HeldCodes}
use Rattle.pure_eval.specs.Holding.{HeldSource, sources_held}
use Rattle.pure_eval.specs.Workspaces.{Workspace, workspace_of, OpenWorkspace, opened_of}

-- a workspace, the names with which it began, and the sources of which the code is held
pub record HeldWorkspace : Type 0 where
  pub names : List (List ℕ)
  pub workspace : Workspace
  pub held : List HeldSource

-- a workspace that is open over the cells of a program, the names with which it began, and the sources of which the code
-- is held
pub record HeldOpenWorkspace : Type 0 where
  pub names : List (List ℕ)
  pub workspace : OpenWorkspace
  pub held : List HeldSource

-- the names that an evaluator had when it was marked
abbrev pub marked_names : Evaluator → EvaluatorMark → List (List ℕ)
marked_names e m = take m.names e.names

-- the workspace of an evaluator that was marked when it began, with the codes that are held and the cells of its
-- evaluations
abbrev pub held_of : Evaluator → ℕ → EvaluatorMark → Option HeldCodes → Heap → HeldWorkspace
held_of e n start codes h = record {
  names = marked_names e start;
  workspace = workspace_of e n h;
  held = sources_held e.names e.table codes;
}

-- that of an evaluator which was marked when it began and when it was opened, and the cells over those of the program
abbrev pub held_open_of : Evaluator → ℕ → EvaluatorMark → Option HeldCodes → EvaluatorMark → Heap → Over → OverlayMark
    → HeldOpenWorkspace
held_open_of e n start codes m base world cells = record {
  names = marked_names e start;
  workspace = opened_of e n m base world cells;
  held = sources_held e.names e.table codes;
}
