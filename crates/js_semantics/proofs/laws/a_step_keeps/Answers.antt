use Rattle.js_semantics.proofs.FollowLemmas.{next-follows}
use Rattle.js_semantics.proofs.laws.a_step_keeps.Goals as goal

pub returns : goal.returns
returns c = next-follows
