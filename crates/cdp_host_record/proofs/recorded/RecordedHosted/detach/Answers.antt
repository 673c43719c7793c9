use Rattle.cdp_host_record.proofs.CallLemmas.{detaches}
use Rattle.cdp_host_record.proofs.recorded.RecordedHosted.detach.Goals as goal

pub returns-clause-stands : goal.returns-clause-stands
returns-clause-stands g c = λ k h stood owns. (
  c.detach-lost.ensures.stands k h stood.0 owns,
  detaches g.H.Hosted.debugs h k c.args.session c.means_attached-is_attached.result c.args.self.now.journal
      c.add_detach.new.journal (c.means_attached-is_attached.ensures h stood.0) stood.1 c.add_detach.ensures,
)

pub returns-clause-told : goal.returns-clause-told
returns-clause-told g c = λ h stood. c.detach-lost.ensures.told h stood.0
