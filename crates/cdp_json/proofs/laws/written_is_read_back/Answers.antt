use Rattle.cdp_json.proofs.ReadBackLemmas.{written_is_read_back}
use Rattle.cdp_json.proofs.laws.written_is_read_back.Goals as goal

pub returns : goal.returns
returns c = written_is_read_back
