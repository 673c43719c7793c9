use Rattle.js_semantics.specs.Sources.{expression_source}
use Rattle.js_semantics.specs.Literals.{source_literals}
use Rattle.js_semantics.proofs.EvaluationSound.{evaluate-sound}
use Rattle.js_semantics.proofs.SourceLemmas.{expression-untouched}
use Rattle.js_semantics.proofs.laws.an_evaluation_keeps_sound.Goals as goal

pub returns : goal.returns
returns c =
    λ p w x scope receiver e h. evaluate-sound p w x scope receiver e.source (source_literals e.tree)
    (expression_source e.tree) (expression-untouched e.tree) h
