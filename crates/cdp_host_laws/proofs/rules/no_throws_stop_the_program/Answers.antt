use Rattle.cdp_host_laws.proofs.RunningRuleLemmas.{none-until}
use Rattle.cdp_host_laws.proofs.rules.no_throws_stop_the_program.Goals as goal

pub returns : goal.returns
returns c = none-until
