use Rattle.js_semantics.proofs.DepthLemmas.{next-agrees}
use Rattle.js_semantics.proofs.laws.a_step_keeps_its_frames.Goals as goal

pub returns : goal.returns
returns c = next-agrees
