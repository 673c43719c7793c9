use Rattle.cdp_host_laws.proofs.LeaveRuleLemmas.{skip-until}
use Rattle.cdp_host_laws.proofs.leaving.skipping_all_pauses_stops_nowhere.Goals as goal

pub returns : goal.returns
returns c = skip-until
