use Rattle.js_semantics.specs.Sources.{expression_source}
use Rattle.js_semantics.specs.Literals.{source_literals}
use Rattle.js_semantics.proofs.EvaluationSound.{evaluate_call-sound}
use Rattle.js_semantics.proofs.SourceLemmas.{expression-untouched}
use Rattle.js_semantics.proofs.laws.an_evaluated_call_keeps_sound.Goals as goal

pub returns : goal.returns
returns c =
    λ p w x f receiver args h a. evaluate_call-sound p w x f.source (source_literals f.tree) (expression_source f.tree)
    receiver args (expression-untouched f.tree) h a
