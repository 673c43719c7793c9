use Rattle.std.proofs.Common.{refl}
use Rattle.cdp_host.specs.Programs.{start}
use Rattle.cdp_host.specs.Protocols.{protocol}
use Rattle.cdp_host_laws.specs.Identity.{number_of_stop}
use Rattle.cdp_host_laws.proofs.StopNumberLemmas.{stops-numbered}
use Rattle.cdp_host_laws.proofs.identity.stops_are_counted_from_one.Goals as goal

pub returns : goal.returns
returns c =
    λ scripts input wait history fits few. stops-numbered (protocol scripts) number_of_stop (λ k r. refl)
    (start scripts input) wait history fits few
