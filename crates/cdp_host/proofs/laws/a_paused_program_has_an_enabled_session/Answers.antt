use Rattle.cdp_host_isolation.proofs.StopLemmas.{paused-well}
use Rattle.cdp_host.specs.Programs.{start}
use Rattle.cdp_host.specs.Protocols.{protocol}
use Rattle.cdp_host.proofs.ProtocolLemmas.{enabled-kept}
use Rattle.cdp_host.proofs.laws.a_paused_program_has_an_enabled_session.Goals as goal

pub returns : goal.returns
returns c =
    λ scripts input wait history paused.
    (paused-well (protocol scripts) (start scripts input) wait history (enabled-kept scripts)).enabled paused
