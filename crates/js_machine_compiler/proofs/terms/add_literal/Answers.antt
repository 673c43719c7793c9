use Rattle.js_machine_compiler.proofs.KeepLemmas.{keeps_constants}
use Rattle.js_machine_compiler.proofs.TermSteps.{literal_keeps, literal_trees}
use Rattle.js_machine_compiler.proofs.terms.add_literal.Goals as goal

pub returns-clause-keeps : goal.returns-clause-keeps
returns-clause-keeps c =
    literal_keeps c.add_node.result c.args.table.now _ c.add_node.new.table c.in_ok-info.info c.new-none.result.items
    c.new-none.ensures.items
    (keeps_constants c.args.table.now c.put.new.entries c.args.value c.in_ok-info.ensures.more) c.add_node.ensures

pub returns-clause-tree : goal.returns-clause-tree
returns-clause-tree c =
    literal_trees c.add_node.result _ c.add_node.new.table c.in_ok-info.info c.new-none.result.items c.args.value
    c.in_ok-info.ensures.place c.add_node.ensures
