use Rattle.cdp_host.specs.Programs.{start}
use Rattle.cdp_host.specs.Protocols.{protocol}
use Rattle.cdp_host_laws.proofs.StopNumberLemmas.{pause-last}
use Rattle.cdp_host_laws.proofs.identity.a_pause_is_the_last_stop.Goals as goal

pub returns : goal.returns
returns c = λ scripts input wait history. pause-last (protocol scripts) (start scripts input) wait history
