use Rattle.js_machine_terms.specs.Views.{term_view}
use Rattle.pure_eval.specs.Holding.{code_term}
use Rattle.pure_eval.proofs.AddLemmas.{source-pushed}
use Rattle.pure_eval.proofs.adding.add_source.Goals as goal

pub returns : goal.returns
returns c =
    source-pushed c.args.names.now c.code_or_held.new.names c.args.table.now c.code_or_held.new.table c.push.new.self
    c.args.at
    (code_term c.args.names.now c.args.table.now (term_view c.args.term.now) c.args.held)
    c.in_ok-entry.entry c.in_ok-entry.ensures c.in_ok-push.ensures.items
