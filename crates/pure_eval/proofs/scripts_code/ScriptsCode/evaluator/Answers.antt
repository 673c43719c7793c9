use Rattle.pure_eval.proofs.ReturnLemmas.{shared-code}
use Rattle.pure_eval.proofs.scripts_code.ScriptsCode.evaluator.Goals as goal

pub returns-clause-code : goal.returns-clause-code
returns-clause-code c =
    rw (← c.self.view_is)
    (shared-code c.self.inside.names c.in_ok-names.names c.self.inside.table c.in_ok-table.table c.add_call.new.table
    c.in_ok-call.call c.self.invariant c.in_ok-names.ensures c.in_ok-table.ensures c.in_ok-call.ensures)
