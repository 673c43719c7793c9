use Rattle.cdp_session_laws.proofs.IdLemmas.{unknown-frame}
use Rattle.cdp_session_laws.proofs.identity.the_id_of_a_frame_of_another_stop_is_unknown.Goals as goal

pub returns : goal.returns
returns c = unknown-frame
