use Rattle.std.proofs.Common.{◌∷◌, [], refl}
use Rattle.cdp_journal.specs.Lines as lines
use Rattle.cdp_host_isolation.specs.Histories.{Shut}
use Rattle.cdp_host_record.proofs.GrowthLemmas.{adds-lines}
use Rattle.cdp_host_record.proofs.recorded.RecordedHosted.shut.Goals as goal

pub returns : goal.returns
returns g c = λ k h stood. (
  c.shut.ensures k h stood.0,
  adds-lines g.H.Hosted.debugs h k Shut (lines.Shut ∷ []) c.args.self.now.journal c.add_shut.new.journal refl stood.1
      refl c.add_shut.ensures,
)
