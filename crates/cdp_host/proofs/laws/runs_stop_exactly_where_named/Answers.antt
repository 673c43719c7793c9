use Rattle.cdp_host_isolation.proofs.StopLemmas.{stops-exactly}
use Rattle.cdp_host.specs.Programs.{start}
use Rattle.cdp_host.specs.Protocols.{protocol}
use Rattle.cdp_host.proofs.laws.runs_stop_exactly_where_named.Goals as goal

pub returns : goal.returns
returns c = λ scripts input wait history fits. stops-exactly (protocol scripts) (start scripts input) wait history fits
