use Rattle.cdp_host_isolation.proofs.TextLemmas.{in-order}
use Rattle.cdp_host.specs.Programs.{start}
use Rattle.cdp_host.specs.Protocols.{protocol, texts}
use Rattle.cdp_host.proofs.ProtocolLemmas.{sent}
use Rattle.cdp_host.proofs.laws.texts_are_handed_out_in_order.Goals as goal

pub returns : goal.returns
returns c =
    λ scripts input wait s history fits. in-order (protocol scripts) (texts scripts) (sent scripts) s
    (start scripts input) wait history fits
