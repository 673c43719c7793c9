use Rattle.cdp_host_laws.proofs.StepRuleLemmas.{into-until}
use Rattle.cdp_host_laws.proofs.rules.step_into_stops_at_the_next_break_location.Goals as goal

pub returns : goal.returns
returns c = into-until
