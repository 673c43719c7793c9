use Rattle.std.proofs.Common.{refl}
use Rattle.cdp_host.specs.Programs.{start}
use Rattle.cdp_host.specs.Protocols.{protocol}
use Rattle.cdp_host_laws.proofs.SeenLemmas.{always-shown}
use Rattle.cdp_host_laws.proofs.ShownLemmas.{number-kept, number_of}
use Rattle.cdp_host_laws.proofs.identity.a_session_has_the_number_of_its_seat.Goals as goal

pub returns : goal.returns
returns c =
    λ scripts input wait s history x fits at. always-shown (protocol scripts) number_of (number-kept scripts) s s refl
    (start scripts input) wait history fits x at
