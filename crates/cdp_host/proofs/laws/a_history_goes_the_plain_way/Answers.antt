use Rattle.cdp_host.proofs.LawLemmas.{goes-plainly}
use Rattle.cdp_host.proofs.laws.a_history_goes_the_plain_way.Goals as goal

pub returns : goal.returns
returns c = goes-plainly
