use Rattle.pure_eval.proofs.HoldLemmas.{codes-begun}
use Rattle.pure_eval.proofs.holding.codes_behind.Goals as goal

pub returns-in-None-clause-holds : goal.returns-in-None-clause-holds
returns-in-None-clause-holds c = λ e n start held marked.
    codes-begun e n start (record { mark = c.args.mark; codes = c.new.result }) held.working marked c.new.ensures.items
