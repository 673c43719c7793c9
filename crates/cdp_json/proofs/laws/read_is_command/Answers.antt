use Rattle.cdp_json.proofs.CommandLemmas.{read_is_command}
use Rattle.cdp_json.proofs.laws.read_is_command.Goals as goal

pub returns : goal.returns
returns c = read_is_command
