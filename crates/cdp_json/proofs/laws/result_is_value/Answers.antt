use Rattle.cdp_json.proofs.MessageLemmas.{result_is_value}
use Rattle.cdp_json.proofs.laws.result_is_value.Goals as goal

pub returns : goal.returns
returns c = result_is_value
