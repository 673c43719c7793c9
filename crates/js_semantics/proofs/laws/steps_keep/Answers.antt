use Rattle.js_semantics.proofs.FollowLemmas.{steps-follows}
use Rattle.js_semantics.proofs.laws.steps_keep.Goals as goal

pub returns : goal.returns
returns c = steps-follows
