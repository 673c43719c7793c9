use Rattle.std.proofs.Common.{◌∙◌}
use Rattle.std.proofs.lemmas.Result.{IfOk-weaker}
use Rattle.cdp_journal.proofs.DrillLemmas.{source-is}
use Rattle.cdp_journal.proofs.drill.drill_source.Goals as goal

pub returns : goal.returns
returns c = IfOk-weaker c.format.result _ _ (λ text is. is ∙ source-is c.args.count) c.format.ensures.ok
