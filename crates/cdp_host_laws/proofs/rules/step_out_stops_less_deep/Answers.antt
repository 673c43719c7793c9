use Rattle.cdp_host_laws.proofs.StepRuleLemmas.{out-until}
use Rattle.cdp_host_laws.proofs.rules.step_out_stops_less_deep.Goals as goal

pub returns : goal.returns
returns c = out-until
