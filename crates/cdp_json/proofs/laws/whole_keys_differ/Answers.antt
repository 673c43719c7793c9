use Rattle.cdp_json.proofs.WholeLemmas.{whole_keys_differ}
use Rattle.cdp_json.proofs.laws.whole_keys_differ.Goals as goal

pub returns : goal.returns
returns c = whole_keys_differ
