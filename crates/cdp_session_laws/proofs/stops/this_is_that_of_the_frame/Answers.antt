use Rattle.cdp_session_laws.proofs.ReceiverLemmas.{this-replied}
use Rattle.cdp_session_laws.proofs.stops.this_is_that_of_the_frame.Goals as goal

pub returns : goal.returns
returns c = this-replied
