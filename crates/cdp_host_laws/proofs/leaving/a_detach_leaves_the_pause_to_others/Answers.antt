use Rattle.cdp_host_laws.proofs.LeaveRuleLemmas.{detach-leaves}
use Rattle.cdp_host_laws.proofs.leaving.a_detach_leaves_the_pause_to_others.Goals as goal

pub returns : goal.returns
returns c = detach-leaves
