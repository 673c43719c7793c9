use Rattle.cdp_json.proofs.MessageLemmas.{event_is_value}
use Rattle.cdp_json.proofs.laws.event_is_value.Goals as goal

pub returns : goal.returns
returns c = event_is_value
