use Rattle.pure_eval.proofs.WorkspaceLemmas.{working-alone, working-first}
use Rattle.pure_eval.proofs.session_code.SessionCode.begun.Goals as goal

pub returns-clause-holds : goal.returns-clause-holds
returns-clause-holds c = λ code.
    let e = c.args.evaluator in
    let start = c.mark-start.result in
    working-alone e start.table.sources start
    (working-first e start.table.sources start code c.mark-start.ensures.marked
    c.mark-start.ensures.marked.table.sources)
