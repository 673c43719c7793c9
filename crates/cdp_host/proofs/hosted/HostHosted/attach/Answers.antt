use Rattle.cdp_host_isolation.specs.Histories.{Attach}
use Rattle.cdp_host.proofs.HostedLemmas.{attach-next, ok-owned, owned-on}
use Rattle.cdp_host.proofs.hosted.HostHosted.attach.Goals as goal

pub returns-clause-next : goal.returns-clause-next
returns-clause-next g c =
    attach-next g.B.Beginning.scripts g.B.Beginning.input g.B.Beginning.wait c.args.self.now c.attach.result c.attach.ensures.number c.attach.ensures.broken

pub returns-clause-stands : goal.returns-clause-stands
returns-clause-stands g c =
    ok-owned c.attach.result _ _ (λ carries k h stood. owned-on g.B.Beginning.scripts g.B.Beginning.input g.B.Beginning.wait c.args.self.now c.attach.new.self k Attach h carries tt stood) c.attach.ensures.stands
