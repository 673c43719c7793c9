use Rattle.cdp_session_laws.proofs.LimitLemmas.{within-limits}
use Rattle.cdp_session_laws.proofs.limits.a_session_stays_within_its_limits.Goals as goal

pub returns : goal.returns
returns c = within-limits
