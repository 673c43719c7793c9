use Rattle.cdp_json.proofs.MessageLemmas.{refusal_is_value}
use Rattle.cdp_json.proofs.laws.refusal_is_value.Goals as goal

pub returns : goal.returns
returns c = refusal_is_value
