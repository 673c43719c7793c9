use Rattle.cdp_host_laws.proofs.ExceptionLaws.{other-none}
use Rattle.cdp_host_laws.proofs.exceptions.others_count_no_exception.Goals as goal

pub returns : goal.returns
returns c = other-none
