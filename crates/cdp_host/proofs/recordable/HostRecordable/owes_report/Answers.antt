use Rattle.std.proofs.Common.{◌∙◌}
use Rattle.cdp_host.proofs.RecordLemmas.{owned-owed}
use Rattle.cdp_host.proofs.recordable.HostRecordable.owes_report.Goals as goal

pub returns : goal.returns
returns g c = λ h stood.
    c.some_still_wait.ensures
    ∙ owned-owed g.B.Beginning.scripts g.B.Beginning.input g.B.Beginning.wait c.args.self.now h stood
