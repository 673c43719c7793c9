use Rattle.std.proofs.Common.{[], refl}
use Rattle.cdp_host.specs.Programs.{start}
use Rattle.cdp_host.specs.Protocols.{protocol}
use Rattle.cdp_host_laws.specs.Lives.{HasLived}
use Rattle.cdp_host_laws.proofs.HeldLemmas.{always-holds}
use Rattle.cdp_host_laws.proofs.LifeLaws.{lives-always}
use Rattle.cdp_host_laws.proofs.identity.a_session_of_a_history_has_lived.Goals as goal

pub returns : goal.returns
returns c =
    λ scripts input wait s history x fits at. always-holds (protocol scripts) (HasLived scripts s)
    (lives-always scripts s) s ([], refl) (start scripts input) wait history fits x at
