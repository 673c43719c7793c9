use Rattle.cdp_host_laws.proofs.CommandTextLemmas.{locations-given}
use Rattle.cdp_host_laws.proofs.rules.a_location_is_the_one_that_is_written.Goals as goal

pub returns : goal.returns
returns c = locations-given
