use Rattle.cdp_host_isolation.proofs.StopLemmas.{stops-exactly}
use Rattle.cdp_host_isolation.proofs.laws.runs_stop_exactly_where_named.Goals as goal

pub returns : goal.returns
returns c = λ P c wait history fits. stops-exactly P c wait history fits
