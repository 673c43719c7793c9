use Rattle.cdp_host_laws.proofs.RunningRuleLemmas.{all-then-on}
use Rattle.cdp_host_laws.proofs.rules.all_throws_stop_it_once_it_goes_on.Goals as goal

pub returns : goal.returns
returns c = all-then-on
