use Rattle.std.proofs.Common.{subst, sym}
use Rattle.cdp_host.specs.Hosts.{HostState, StandsFor}
use Rattle.cdp_host.proofs.HistoryLemmas.{stands-handed}
use Rattle.cdp_host.proofs.ViewLemmas.{seen_as}
use Rattle.cdp_host.proofs.host.Host.fallen.Goals as goal

pub returns-clause-stands : goal.returns-clause-stands
returns-clause-stands c = λ scripts input wait history stood.
    let P : HostState → Type 0 = λ h. StandsFor scripts input wait h history in
    stands-handed scripts input wait (seen_as c.self.inside) history _ (subst P (sym c.self.view_is) stood)
