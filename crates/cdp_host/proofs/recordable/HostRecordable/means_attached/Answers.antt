use Rattle.std.proofs.Common.{◌∙◌}
use Rattle.cdp_host.proofs.RecordLemmas.{owned-attached}
use Rattle.cdp_host.proofs.recordable.HostRecordable.means_attached.Goals as goal

pub returns : goal.returns
returns g c = λ h stood.
    c.is_attached_or_fell.ensures
    ∙ owned-attached g.B.Beginning.scripts g.B.Beginning.input g.B.Beginning.wait c.args.self.now c.args.session h stood
