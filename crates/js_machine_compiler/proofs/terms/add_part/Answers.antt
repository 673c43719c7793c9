use Rattle.js_machine_compiler.proofs.TermSteps.{part_grows, part_tree}
use Rattle.js_machine_compiler.proofs.terms.add_part.Goals as goal

pub returns-in_ok-add_node-in-Some-clause-grows : goal.returns-in_ok-add_node-in-Some-clause-grows
returns-in_ok-add_node-in-Some-clause-grows c =
    part_grows c.args.names.now c.form_entry.new.names c.args.table.now c.form_entry.new.table c.add_node.new.table
    c.in_ok-entry.field-0 c.in-Some.entry c.in_ok-add_node-in-Some.field-0 c.args.now.now.items
    c.args.later.now.items c.args.form.now c.in_ok-entry.ensures.grows c.in_ok-entry.ensures.entry c.in-Some.is
    c.in_ok-add_node-in-Some.ensures

pub returns-in_ok-add_node-in-Some-clause-tree : goal.returns-in_ok-add_node-in-Some-clause-tree
returns-in_ok-add_node-in-Some-clause-tree c =
    part_tree c.args.names.now c.form_entry.new.names c.args.table.now c.form_entry.new.table c.add_node.new.table
    c.in_ok-entry.field-0 c.in-Some.entry c.in_ok-add_node-in-Some.field-0 c.args.now.now.items
    c.args.later.now.items c.args.form.now c.in_ok-entry.ensures.grows c.in_ok-entry.ensures.entry c.in-Some.is
    c.in_ok-add_node-in-Some.ensures
