use Rattle.cdp_host_isolation.proofs.RoomLemmas.{fit}
use Rattle.cdp_host.specs.Programs.{start}
use Rattle.cdp_host.specs.Protocols.{protocol}
use Rattle.cdp_host.proofs.ProtocolLemmas.{roomy}
use Rattle.cdp_host.proofs.laws.texts_that_wait_fit.Goals as goal

pub returns : goal.returns
returns c = λ scripts input wait s history. fit (protocol scripts) (roomy scripts) (start scripts input) wait history s
