use Rattle.cdp_client.proofs.MetLemmas.{met-from}
use Rattle.cdp_client.proofs.laws.waits_are_met_by_events.Goals as goal

pub returns : goal.returns
returns c = λ course answers method. met-from method course answers
