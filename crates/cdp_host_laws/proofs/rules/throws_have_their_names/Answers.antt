use Rattle.cdp_host_laws.proofs.CommandTextLemmas.{states-named}
use Rattle.cdp_host_laws.proofs.rules.throws_have_their_names.Goals as goal

pub returns : goal.returns
returns c = states-named
