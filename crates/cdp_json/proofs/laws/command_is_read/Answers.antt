use Rattle.cdp_json.proofs.CommandLemmas.{command_is_read}
use Rattle.cdp_json.proofs.laws.command_is_read.Goals as goal

pub returns : goal.returns
returns c = command_is_read
