use Rattle.cdp_session_laws.proofs.AskingLemmas.{disabled}
use Rattle.cdp_session_laws.proofs.asking.disabling_forgets_what_was_asked_for.Goals as goal

pub returns : goal.returns
returns c = disabled
