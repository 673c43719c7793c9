use Rattle.cdp_host_laws.proofs.StepRuleLemmas.{over-until}
use Rattle.cdp_host_laws.proofs.rules.step_over_stops_no_deeper.Goals as goal

pub returns : goal.returns
returns c = over-until
