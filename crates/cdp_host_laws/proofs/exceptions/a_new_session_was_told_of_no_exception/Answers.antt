use Rattle.cdp_host_laws.proofs.ExceptionLaws.{new-session}
use Rattle.cdp_host_laws.proofs.exceptions.a_new_session_was_told_of_no_exception.Goals as goal

pub returns : goal.returns
returns c = new-session
