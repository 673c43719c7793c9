use Rattle.cdp_session_laws.proofs.LifeLemmas.{id-stays}
use Rattle.cdp_session_laws.proofs.identity.an_id_names_one_object_until_it_is_released.Goals as goal

pub returns : goal.returns
returns c = id-stays
