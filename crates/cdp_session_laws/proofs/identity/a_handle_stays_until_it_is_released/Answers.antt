use Rattle.cdp_session_laws.proofs.EventLemmas.{a-handle-stays}
use Rattle.cdp_session_laws.proofs.identity.a_handle_stays_until_it_is_released.Goals as goal

pub returns : goal.returns
returns c = a-handle-stays
