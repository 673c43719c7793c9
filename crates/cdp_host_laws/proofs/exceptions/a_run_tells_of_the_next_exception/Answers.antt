use Rattle.cdp_host_laws.proofs.ThrowLaws.{run-next}
use Rattle.cdp_host_laws.proofs.exceptions.a_run_tells_of_the_next_exception.Goals as goal

pub returns : goal.returns
returns c = run-next
