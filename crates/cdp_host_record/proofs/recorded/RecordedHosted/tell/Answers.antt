use Rattle.cdp_host_record.proofs.CallLemmas.{tells}
use Rattle.cdp_host_record.proofs.recorded.RecordedHosted.tell.Goals as goal

pub returns-clause-stands : goal.returns-clause-stands
returns-clause-stands g c = λ k h stood owns. (
  c.tell-told.ensures.stands k h stood.0 owns,
  tells g.H.Hosted.debugs h k c.args.session c.args.text.now c.tell-told.result c.means_attached-is_attached.result
      c.args.self.now.journal c.add_told.new.journal (c.means_attached-is_attached.ensures h stood.0) stood.1
      c.add_told.ensures,
)

pub returns-clause-fits : goal.returns-clause-fits
returns-clause-fits g c = λ h stood. c.tell-told.ensures.fits h stood.0
