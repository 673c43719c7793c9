use Rattle.std.proofs.Common.{◌∙◌}
use Rattle.pure_eval.proofs.HoldLemmas.{held-length}
use Rattle.pure_eval.proofs.holding.count_held.Goals as goal

pub returns-in-Some : goal.returns-in-Some
returns-in-Some c = λ names t.
    held-length names t c.args.held.now c.in-Some.held c.len.result c.in-Some.is
    (c.len.ensures ∙ c.in-Some.held.codes.ok.0)
