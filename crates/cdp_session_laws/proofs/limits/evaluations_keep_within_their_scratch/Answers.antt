use Rattle.cdp_session_laws.proofs.LimitLemmas.{within-scratch}
use Rattle.cdp_session_laws.proofs.limits.evaluations_keep_within_their_scratch.Goals as goal

pub returns : goal.returns
returns c = within-scratch
