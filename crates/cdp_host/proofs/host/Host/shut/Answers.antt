use Rattle.std.proofs.Common.{true, refl, subst}
use Rattle.cdp_host_isolation.specs.Histories.{Shut}
use Rattle.cdp_host.specs.Hosts.{CarriesOn, HostState, Leaves}
use Rattle.cdp_host.proofs.LeaveLemmas.{leaves-shut, shut-stands}
use Rattle.cdp_host.proofs.ViewLemmas.{seen_as}
use Rattle.cdp_host.proofs.host.Host.shut.Goals as goal

pub returns-clause-leaves : goal.returns-clause-leaves
returns-clause-leaves c =
    let a = c.self.inside in
    let h : HostState = seen_as a in
    subst (λ o. Leaves o Shut (record h { meaning = record h.meaning { shut = true } })) c.self.view_is (leaves-shut h)

pub returns-clause-stands : goal.returns-clause-stands
returns-clause-stands c =
    let a = c.self.inside in
    let h : HostState = seen_as a in
    subst (λ o. CarriesOn o Shut (record h { meaning = record h.meaning { shut = true } })) c.self.view_is
    (shut-stands h h.broken refl)
