use Rattle.cdp_json.proofs.GivenLemmas.{given_is_read_back}
use Rattle.cdp_json.proofs.laws.given_is_read_back.Goals as goal

pub returns : goal.returns
returns c = given_is_read_back
