use Rattle.cdp_host.proofs.ForeignLemmas.{foreign-frame, foreign-object}
use Rattle.cdp_host.proofs.laws.an_id_of_another_session_is_unknown.Goals as goal

pub returns : goal.returns
returns c = record { objects = foreign-object; frames = foreign-frame }
