use Rattle.cdp_session_laws.proofs.LifeLemmas.{id-gone, released-group, released-id}
use Rattle.cdp_session_laws.proofs.identity.a_released_id_is_unknown_for_ever.Goals as goal

pub returns : goal.returns
returns c = record { always = id-gone; by_its_id = released-id; by_its_group = released-group }
