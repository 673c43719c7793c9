use Rattle.cdp_host_isolation.specs.Histories.{Take}
use Rattle.cdp_host_isolation.proofs.MakerLemmas.{owner-may}
use Rattle.std.proofs.Common.{map, string_bytes}
use Rattle.cdp_host.proofs.HostedLemmas.{owned-on, owned-waiting}
use Rattle.cdp_host.proofs.hosted.HostHosted.take.Goals as goal

pub returns-clause-texts : goal.returns-clause-texts
returns-clause-texts g c = λ h stood.
    owned-waiting g.B.Beginning.scripts g.B.Beginning.input g.B.Beginning.wait c.args.self.now c.args.session (map string_bytes c.take.result.items) h c.requires c.take.ensures.texts stood

pub returns-clause-stands : goal.returns-clause-stands
returns-clause-stands g c = λ k h stood owns.
    owned-on g.B.Beginning.scripts g.B.Beginning.input g.B.Beginning.wait c.args.self.now c.take.new.self k (Take c.args.session) h c.take.ensures.stands (owner-may k c.args.session h owns) stood
