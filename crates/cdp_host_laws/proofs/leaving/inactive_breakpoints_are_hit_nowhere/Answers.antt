use Rattle.cdp_host_laws.proofs.LeaveRuleLemmas.{inactive-unhit}
use Rattle.cdp_host_laws.proofs.leaving.inactive_breakpoints_are_hit_nowhere.Goals as goal

pub returns : goal.returns
returns c = inactive-unhit
