use Rattle.std.proofs.Common.{◌∷◌, [], refl}
use Rattle.cdp_journal.specs.Lines as lines
use Rattle.cdp_host_isolation.specs.Histories.{Attach}
use Rattle.cdp_host_record.proofs.GrowthLemmas.{adds-lines}
use Rattle.cdp_host_record.proofs.recorded.RecordedHosted.attach.Goals as goal

pub returns-clause-next : goal.returns-clause-next
returns-clause-next g c = λ h stood. c.in_ok-session.ensures.next h stood.0

pub returns-clause-stands : goal.returns-clause-stands
returns-clause-stands g c = λ k h stood. (
  c.in_ok-session.ensures.stands k h stood.0,
  adds-lines g.H.Hosted.debugs h k Attach (lines.Attach ∷ []) c.args.self.now.journal c.add_attach.new.journal refl
      stood.1 refl c.add_attach.ensures,
)
