use Rattle.js_semantics.proofs.FollowLemmas.{out-grows}
use Rattle.js_semantics.proofs.laws.output_grows.Goals as goal

pub returns : goal.returns
returns c = out-grows
