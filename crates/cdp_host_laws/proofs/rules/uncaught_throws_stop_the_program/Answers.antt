use Rattle.cdp_host_laws.proofs.RunningRuleLemmas.{uncaught-until}
use Rattle.cdp_host_laws.proofs.rules.uncaught_throws_stop_the_program.Goals as goal

pub returns : goal.returns
returns c = uncaught-until
