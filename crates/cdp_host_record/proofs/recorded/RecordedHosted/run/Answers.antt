use Rattle.cdp_host_record.proofs.CallLemmas.{runs}
use Rattle.cdp_host_record.proofs.recorded.RecordedHosted.run.Goals as goal

pub returns-in-Ok-clause-stands : goal.returns-in-Ok-clause-stands
returns-in-Ok-clause-stands g c = λ k h stood.
    let ran = c.in-Ok.ran in (
      c.in-Ok.ensures.stands k h stood.0,
      runs g.H.Hosted.debugs h k ran.steps c.args.moment c.as_slice.result.now ran.lost.items
          c.owes_report-is_owed.result c.args.self.now.journal c.add_ran.new.journal
          (c.owes_report-is_owed.ensures h stood.0) c.as_slice.ensures.value stood.1 c.add_ran.ensures,
    )

pub returns-in-Ok-clause-longest : goal.returns-in-Ok-clause-longest
returns-in-Ok-clause-longest g c = λ ready h stood. c.in-Ok.ensures.longest ready h stood.0

pub returns-in-Ok-clause-printed : goal.returns-in-Ok-clause-printed
returns-in-Ok-clause-printed g c = λ h stood. c.in-Ok.ensures.printed h stood.0

pub returns-in-Err-clause-err : goal.returns-in-Err-clause-err
returns-in-Err-clause-err g c = λ k h stood.
    let lost = c.in-Err.lost in (
      c.in-Err.ensures.err k h stood.0,
      runs g.H.Hosted.debugs h k 0 c.args.moment c.as_slice-in-Err.result.now lost.items
          c.owes_report-is_owed.result c.args.self.now.journal c.add_ran-in-Err.new.journal
          (c.owes_report-is_owed.ensures h stood.0) c.as_slice-in-Err.ensures.value stood.1 c.add_ran-in-Err.ensures,
    )
