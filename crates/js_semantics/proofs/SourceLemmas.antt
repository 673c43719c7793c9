-- The terms of the parser's trees are unstarted, are well-shaped, and wait for their steps, so each configuration of
-- their run is sound, well-shaped and waits for a step.
use Rattle.std.proofs.Common.{ℕ, List, [], ◌∷◌}
use Rattle.js_tree.specs.declared.tree.Expr.{Expr}
use Rattle.js_tree.specs.declared.script.Script.{Script}
use Rattle.js_semantics.specs.Makers.{LoweringContext}
use Rattle.js_semantics.specs.Sources.{expression_source, statements_source, term_of_script, terms_of_scripts}
use Rattle.js_semantics.specs.Run.{program_of, plain as plain_run}
use Rattle.js_semantics.specs.Sound.{SoundRun}
use Rattle.js_semantics.specs.Untouched.{IsUntouched, AreUntouched}
use Rattle.js_semantics.specs.Shapes.{AreShaped, ShapedRun}
use Rattle.js_semantics.proofs.Ready.{all_ready}
use Rattle.js_semantics.specs.Waiting.{AllWait, RunWaits}
use Rattle.js_semantics.specs.Depths.{RunListsFrames}
use Rattle.js_semantics.proofs.SourceFolds.{expression-related, statements-related}
use Rattle.js_semantics.proofs.MadeLemmas.{Making, IsMade, relations_of, keeps-made, script-made}
use Rattle.js_semantics.proofs.UnstartedMakers.{AreUnstarted, term-untouched, terms-untouched, made_unstarted, unstarted-made}
use Rattle.js_semantics.proofs.ShapeMakers.{made_shaped, shape-made}
use Rattle.js_semantics.proofs.WaitMakers.{made_waiting, wait-made}
use Rattle.js_semantics.proofs.StartLemmas.{plain-sound}
use Rattle.js_semantics.proofs.ShapeStart.{plain-shaped}
use Rattle.js_semantics.proofs.WaitLemmas.{plain-waits}
use Rattle.js_semantics.proofs.DepthLaws.{plain-listed}

pub expression-untouched : (e : Expr) (c : LoweringContext) → IsUntouched ((expression_source e).term c)
expression-untouched e c =
    term-untouched _ (expression-related (relations_of made_unstarted) (keeps-made made_unstarted unstarted-made) e c)

-- ---- the scripts

scripts-made : (M : Making) → IsMade M → (ss : List Script) → M.all (terms_of_scripts ss)
scripts-made M m [] = m.no_parts
scripts-made M m (s ∷ ss) =
    m.a_part (term_of_script s) (terms_of_scripts ss)
    (script-made M m s.number (statements_source s.body)
    (statements-related (relations_of M) (keeps-made M m) s.body))
    (scripts-made M m ss)

pub scripts-unstarted : (ss : List Script) → AreUnstarted (terms_of_scripts ss)
scripts-unstarted ss = scripts-made made_unstarted unstarted-made ss

scripts-untouched : (ss : List Script) → AreUntouched (terms_of_scripts ss)
scripts-untouched ss = terms-untouched (terms_of_scripts ss) (scripts-unstarted ss)

scripts-well : (ss : List Script) → AreShaped (terms_of_scripts ss)
scripts-well ss = scripts-made made_shaped shape-made ss

scripts-wait : (ss : List Script) → AllWait all_ready (terms_of_scripts ss)
scripts-wait ss = scripts-made made_waiting wait-made ss

pub scripts-sound : (k : ℕ) (scripts : List Script) (input : List (List ℕ))
    → SoundRun (program_of (terms_of_scripts scripts)) (plain_run k (terms_of_scripts scripts) input)
scripts-sound k scripts input = plain-sound k (terms_of_scripts scripts) input (scripts-untouched scripts)

pub scripts-shaped : (k : ℕ) (scripts : List Script) (input : List (List ℕ))
    → ShapedRun (plain_run k (terms_of_scripts scripts) input)
scripts-shaped k scripts input = plain-shaped k (terms_of_scripts scripts) input (scripts-well scripts)

pub scripts-waiting : (k : ℕ) (scripts : List Script) (input : List (List ℕ))
    → RunWaits (plain_run k (terms_of_scripts scripts) input)
scripts-waiting k scripts input = plain-waits k (terms_of_scripts scripts) input (scripts-wait scripts)

pub scripts-listed : (k : ℕ) (scripts : List Script) (input : List (List ℕ))
    → RunListsFrames (plain_run k (terms_of_scripts scripts) input)
scripts-listed k scripts input = plain-listed k (terms_of_scripts scripts) input (scripts-untouched scripts)
