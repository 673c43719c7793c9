use Rattle.js_semantics.proofs.FollowLemmas.{over-stays}
use Rattle.js_semantics.proofs.laws.an_ended_run_stays.Goals as goal

pub returns : goal.returns
returns c = over-stays
