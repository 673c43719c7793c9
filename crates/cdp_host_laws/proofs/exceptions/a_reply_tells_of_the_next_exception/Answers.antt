use Rattle.cdp_host_laws.proofs.ExceptionLaws.{reply-next}
use Rattle.cdp_host_laws.proofs.exceptions.a_reply_tells_of_the_next_exception.Goals as goal

pub returns : goal.returns
returns c = reply-next
