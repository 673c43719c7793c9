use Rattle.cdp_host_laws.proofs.LeaveRuleLemmas.{inactive-until}
use Rattle.cdp_host_laws.proofs.leaving.inactive_breakpoints_stop_nowhere.Goals as goal

pub returns : goal.returns
returns c = inactive-until
