use Rattle.cdp_session_laws.proofs.ResultLemmas.{frame-replied, scripts-replied}
use Rattle.cdp_session_laws.proofs.identity.a_reply_names_the_object_of_its_value.Goals as goal

pub returns : goal.returns
returns c = record { in_scripts = scripts-replied; in_frames = frame-replied }
