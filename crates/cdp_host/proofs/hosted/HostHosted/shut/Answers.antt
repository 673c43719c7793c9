use Rattle.cdp_host_isolation.specs.Histories.{Shut}
use Rattle.cdp_host.proofs.HostedLemmas.{owned-on}
use Rattle.cdp_host.proofs.hosted.HostHosted.shut.Goals as goal

pub returns : goal.returns
returns g c = λ k h stood. owned-on g.B.Beginning.scripts g.B.Beginning.input g.B.Beginning.wait c.args.self.now c.shut.new.self k Shut h c.shut.ensures.stands tt stood
