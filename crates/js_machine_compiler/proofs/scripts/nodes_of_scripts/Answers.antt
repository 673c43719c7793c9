use Rattle.js_machine_terms.specs.Views.{listed_view, terms_view}
use Rattle.js_machine_compiler.proofs.ScriptLemmas.{nodes_same}
use Rattle.js_machine_compiler.proofs.scripts.nodes_of_scripts.Goals as goal

pub returns-clause-code : goal.returns-clause-code
returns-clause-code c =
    nodes_same c.args.names.now c.add_scripts.new.names c.new-table.result c.add_scripts.new.table c.add_node.new.table
    c.in_ok-root.root c.new-none.result.items c.in_ok-roots.field-0 c.in-Some.roots
    (listed_view c.slice.result.now) (terms_view c.args.scripts.now)
    c.slice.ensures c.new-table.ensures c.in_ok-roots.ensures.continues c.in-Some.is c.in_ok-roots.ensures.trees
    c.in_ok-roots.ensures.program c.new-none.ensures.items c.in_ok-root.ensures
