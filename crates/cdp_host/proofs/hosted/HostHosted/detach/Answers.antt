use Rattle.cdp_host_isolation.specs.Histories.{Detach}
use Rattle.cdp_host_isolation.proofs.MakerLemmas.{owner-may}
use Rattle.cdp_host.proofs.HostedLemmas.{owned-on}
use Rattle.cdp_host.proofs.PresenceLemmas.{owned-told}
use Rattle.cdp_host.proofs.hosted.HostHosted.detach.Goals as goal

pub returns-clause-stands : goal.returns-clause-stands
returns-clause-stands g c = λ k h stood owns.
    owned-on g.B.Beginning.scripts g.B.Beginning.input g.B.Beginning.wait c.args.self.now c.detach.new.self k (Detach c.args.session) h c.detach.ensures.stands (owner-may k c.args.session h owns) stood

pub returns-clause-told : goal.returns-clause-told
returns-clause-told g c = λ h stood.
    owned-told g.B.Beginning.scripts g.B.Beginning.input g.B.Beginning.wait c.args.self.now c.args.session h stood
    c.detach.result c.detach.ensures.told
