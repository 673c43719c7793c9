use Rattle.cdp_host_laws.proofs.LeaveRuleLemmas.{disable-leaves}
use Rattle.cdp_host_laws.proofs.leaving.disabling_leaves_the_pause_to_others.Goals as goal

pub returns : goal.returns
returns c = disable-leaves
