use Rattle.cdp_host_laws.proofs.CommandNameLemmas.{commands-named}
use Rattle.cdp_host_laws.proofs.rules.commands_have_their_names.Goals as goal

pub returns : goal.returns
returns c = commands-named
