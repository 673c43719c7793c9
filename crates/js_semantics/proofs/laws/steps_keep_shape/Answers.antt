use Rattle.js_semantics.proofs.ShapeLemmas.{steps-shaped}
use Rattle.js_semantics.proofs.laws.steps_keep_shape.Goals as goal

pub returns : goal.returns
returns c = steps-shaped
