use Rattle.std.proofs.Common.{◌∙◌}
use Rattle.cdp_journal.proofs.DrillLemmas.{evens-ceil}
use Rattle.cdp_journal.proofs.drill.evens.Goals as goal

pub returns-clause-exact : goal.returns-clause-exact
returns-clause-exact c = c.div_ceil.ensures ∙ evens-ceil c.args.count
