use Rattle.cdp_host_isolation.proofs.StopLemmas.{plain-way}
use Rattle.cdp_host_isolation.proofs.laws.a_history_goes_the_plain_way.Goals as goal

pub returns : goal.returns
returns c = λ P c wait history. plain-way P c wait history
