use Rattle.cdp_host_isolation.proofs.AloneLemmas.{same-views}
use Rattle.cdp_host.specs.Programs.{start}
use Rattle.cdp_host.specs.Protocols.{protocol}
use Rattle.cdp_host.proofs.laws.same_views_are_sent_the_same.Goals as goal

pub returns : goal.returns
returns c =
    λ scripts input wait s history other fits more same. same-views (protocol scripts) s (start scripts input)
    wait history other fits more same
