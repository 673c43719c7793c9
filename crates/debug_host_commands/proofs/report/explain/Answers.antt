use Rattle.debug_host_commands.proofs.ReportLemmas.{says-more}
use Rattle.debug_host_commands.proofs.report.explain.Goals as goal

pub returns-in-Ok : goal.returns-in-Ok
returns-in-Ok g c =
    says-more _ _ _ _ _ (c.report.ensures.whole c.if-report.true) (c.report.ensures.some c.if-report.true) c.say.ensures.part
