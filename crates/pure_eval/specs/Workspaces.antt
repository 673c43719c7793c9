-- What a session's evaluations go on from, and what one of them leaves.
use Rattle.std.specs.Prelude.{◌≡◌, ℕ, [], ◌∷◌, ◌++◌, length, take}
use Rattle.js_heap.specs.ScratchSpaces.{ScratchSpace}
use Rattle.js_heap.specs.World.{World}
use Rattle.js_semantics.specs.Evaluation.{Answer, a_result, a_throw, an_effect, is_full_of, spent, kept_tree, next_kept}
use Rattle.js_semantics.specs.Functions.{Program, SourceTree}
use Rattle.js_semantics.specs.Makers.{MadeExpression}
use Rattle.js_semantics.specs.declared.form.Source.TheVariants.{Kept as kept_source}
use Rattle.js_heap_memory.specs.Heaps.{Heap, heap_world}
use Rattle.js_heap_memory.specs.Overlays.{OverlayMark, Over, first_space, space_of, space_after, space_at, over_world}
use Rattle.js_machine_nodes.specs.Trees.{program_of}
use Rattle.pure_eval.specs.declared.evaluated.Evaluated.{Evaluated}
use Rattle.pure_eval.specs.declared.evaluated.Evaluated.TheVariants as ends
use Rattle.pure_eval.specs.declared.evaluator.Evaluator.{Evaluator}
use Rattle.pure_eval.specs.declared.evaluator.EvaluatorMark.{EvaluatorMark}

-- the program that they run, how many of its sources are scripts, and the cells that they made
pub record Workspace : Type 0 where
  pub program : Program
  pub scripts : ℕ
  pub scratch : ScratchSpace

-- the workspace of an evaluator and the cells of its evaluations
abbrev pub workspace_of : Evaluator → ℕ → Heap → Workspace
workspace_of e n h = record { program = program_of e.names e.table; scripts = n; scratch = space_of e.names h }

-- the workspace before the first evaluation
abbrev pub begun : Program → Workspace
begun p = record { program = p; scripts = length p; scratch = first_space }

-- a source of which this was made, kept behind the cells of evaluations
abbrev pub source_kept : ScratchSpace → MadeExpression → SourceTree
source_kept x e = record { source = kept_source (next_kept x); tree = kept_tree (next_kept x) e }

-- behind an evaluation that ended in a world: its source is kept, and so are the cells of that world
abbrev pub with_evaluated : MadeExpression → World → Workspace → Workspace
with_evaluated e w x = record x { program = x.program ++ source_kept x.scratch e ∷ []; scratch = space_after w }

-- a workspace without all that evaluations made and kept
abbrev pub emptied_workspace : Workspace → Workspace
emptied_workspace x = record x { program = take x.scripts x.program; scratch = first_space }

-- ---- over the cells of a program

-- a workspace that was opened over the cells of a program: those, and what evaluations would go on from when it was
-- opened and behind those that were made since
pub record OpenWorkspace : Type 0 where
  pub world : World
  pub before : Workspace
  pub behind : Workspace

-- a workspace that was just opened over the cells of a program
abbrev pub opened : World → Workspace → OpenWorkspace
opened w x = record { world = w; before = x; behind = x }

-- by an evaluator and the cells over those of the program, with marks of when it was opened
abbrev pub opened_of : Evaluator → ℕ → EvaluatorMark → Heap → Over → OverlayMark → OpenWorkspace
opened_of e n m base world cells = record {
  world = heap_world e.names base;
  before =
      record {
        program = take m.table.sources (program_of e.names e.table);
        scripts = n;
        scratch = space_at
            (space_after (over_world e.names world)) cells;
      };
  behind =
      record { program = program_of e.names e.table; scripts = n; scratch = space_after (over_world e.names world) };
}

-- how an evaluation of what is made of a source ends, and what it leaves, by the definition's answer; want of memory
-- says nothing
abbrev pub EvaluatesTo : Answer → MadeExpression → Evaluated → OpenWorkspace → OpenWorkspace → Type 0
EvaluatesTo a e (ends.Value v) old new =
    (w : World) × (a ≡ a_result v w) × (new ≡ record old { behind = with_evaluated e w old.behind })
EvaluatesTo a e (ends.Thrown v) old new =
    (w : World) × (a ≡ a_throw v w) × (new ≡ record old { behind = with_evaluated e w old.behind })
EvaluatesTo a e ends.Effect old new = (a ≡ an_effect) × (new ≡ old)
EvaluatesTo a e (ends.Full what) old new = (a ≡ is_full_of what) × (new ≡ old)
EvaluatesTo a e ends.Spent old new = (a ≡ spent) × (new ≡ old)
EvaluatesTo a e ends.Memory old new = Unit {0}
