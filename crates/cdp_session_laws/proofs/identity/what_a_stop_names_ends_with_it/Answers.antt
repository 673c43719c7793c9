use Rattle.cdp_session_laws.proofs.GroupLemmas.{named-by-stop}
use Rattle.cdp_session_laws.proofs.identity.what_a_stop_names_ends_with_it.Goals as goal

pub returns : goal.returns
returns c = named-by-stop
