use Rattle.cdp_host.proofs.PresenceLemmas.{owned-attached}
use Rattle.cdp_host.proofs.hosted.HostHosted.is_attached.Goals as goal

pub returns-clause-held : goal.returns-clause-held
returns-clause-held g c = λ held h stood.
    owned-attached g.B.Beginning.scripts g.B.Beginning.input g.B.Beginning.wait c.args.self.now c.args.session h stood
    held
