use Rattle.cdp_host_laws.proofs.LeaveRuleLemmas.{skip-silent}
use Rattle.cdp_host_laws.proofs.leaving.a_session_that_skips_names_nothing.Goals as goal

pub returns : goal.returns
returns c = skip-silent
