use Rattle.js_semantics.proofs.ShapeLemmas.{next-shaped}
use Rattle.js_semantics.proofs.laws.a_step_keeps_shape.Goals as goal

pub returns : goal.returns
returns c = next-shaped
