use Rattle.cdp_session_laws.proofs.IdLemmas.{frame-found}
use Rattle.cdp_session_laws.proofs.identity.the_id_of_a_frame_is_read_back.Goals as goal

pub returns : goal.returns
returns c = frame-found
