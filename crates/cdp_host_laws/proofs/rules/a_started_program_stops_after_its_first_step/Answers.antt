use Rattle.cdp_host_laws.proofs.StartRuleLemmas.{starts-paused}
use Rattle.cdp_host_laws.proofs.rules.a_started_program_stops_after_its_first_step.Goals as goal

pub returns : goal.returns
returns c = starts-paused
