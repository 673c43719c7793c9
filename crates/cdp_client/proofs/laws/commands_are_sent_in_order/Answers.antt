use Rattle.cdp_client.proofs.OrderLemmas.{in-order, one-by-one}
use Rattle.cdp_client.proofs.laws.commands_are_sent_in_order.Goals as goal

pub returns : goal.returns
returns c = record { texts = in-order; one_by_one = one-by-one }
