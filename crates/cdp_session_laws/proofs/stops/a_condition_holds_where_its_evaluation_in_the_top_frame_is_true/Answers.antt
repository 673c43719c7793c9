use Rattle.cdp_session_laws.proofs.TruthLemmas.{condition-true}
use Rattle.cdp_session_laws.proofs.stops.a_condition_holds_where_its_evaluation_in_the_top_frame_is_true.Goals as goal

pub returns : goal.returns
returns c = condition-true
