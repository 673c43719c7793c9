use Rattle.js_semantics.proofs.FollowLemmas.{steps-more}
use Rattle.js_semantics.proofs.laws.steps_are_determined.Goals as goal

pub returns : goal.returns
returns c = steps-more
