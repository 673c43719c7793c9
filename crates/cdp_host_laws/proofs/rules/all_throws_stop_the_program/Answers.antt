use Rattle.cdp_host_laws.proofs.RunningRuleLemmas.{all-until}
use Rattle.cdp_host_laws.proofs.rules.all_throws_stop_the_program.Goals as goal

pub returns : goal.returns
returns c = all-until
