use Rattle.std.proofs.Common.{ap, ◌∙◌}
use Rattle.cdp_host_record.specs.Records.{is_some_there}
use Rattle.cdp_host_record.proofs.CallLemmas.{takes}
use Rattle.cdp_host_record.proofs.recorded.RecordedHosted.take.Goals as goal

pub returns-clause-texts : goal.returns-clause-texts
returns-clause-texts g c = λ h stood. c.take-texts.ensures.texts h stood.0

pub returns-clause-stands : goal.returns-clause-stands
returns-clause-stands g c = λ k h stood owns. (
  c.take-texts.ensures.stands k h stood.0 owns,
  takes g.H.Hosted.debugs h k c.args.session c.take-texts.result.items c.is_some.result c.args.self.now.journal
      c.add_take.new.journal (c.is_some.ensures ∙ ap (λ these. is_some_there these) c.as_slice.ensures.value)
      (c.take-texts.ensures.texts h stood.0) stood.1 c.add_take.ensures,
)
