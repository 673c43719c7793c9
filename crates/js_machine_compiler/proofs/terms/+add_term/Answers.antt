use Rattle.js_machine_terms.specs.Views.{terms_view}
use Rattle.js_machine_compiler.proofs.GrownLemmas.{grows_twice}
use Rattle.js_machine_compiler.proofs.TermSteps.{done_holds, standing_none, now_none, later_none, parts_grow, parts_tree, items_step, items_none}
use Rattle.js_machine_compiler.proofs.terms.+add_term.Goals as goal

pub add_term-returns-in_default-clause-tree : goal.add_term-returns-in_default-clause-tree
add_term-returns-in_default-clause-tree t c =
    now_none c.add_terms.new.names c.add_terms.new.table c.in_ok-now-in-Part.field-0 c.args.term.now c.in-Part.form
    c.in-Part.now c.in-Part.later c.in-Part.is c.in_default.not-Some c.in_ok-now-in-Part.ensures.trees

pub add_term-returns-in_default-2-clause-grows : goal.add_term-returns-in_default-2-clause-grows
add_term-returns-in_default-2-clause-grows t c =
    grows_twice c.args.names.now c.add_terms.new.names c.add_terms-in-Part.new.names c.args.table.now
    c.add_terms.new.table c.add_terms-in-Part.new.table c.in_ok-now-in-Part.ensures.grows
    c.in_ok-later-in-Part.ensures.grows

pub add_term-returns-in_default-2-clause-tree : goal.add_term-returns-in_default-2-clause-tree
add_term-returns-in_default-2-clause-tree t c =
    later_none c.add_terms-in-Part.new.names c.add_terms-in-Part.new.table c.in_ok-later-in-Part.field-0 c.args.term.now
    c.in-Part.form c.in-Part.now c.in-Part.later c.in-Part.is c.in_default-2.not-Some
    c.in_ok-later-in-Part.ensures.trees

pub add_term-returns-in_ok-add_literal-in-Done-clause-tree : goal.add_term-returns-in_ok-add_literal-in-Done-clause-tree
add_term-returns-in_ok-add_literal-in-Done-clause-tree t c =
    done_holds c.args.names.now c.add_literal.new.table c.in_ok-add_literal-in-Done.field-0 c.args.term.now
    c.in-Done.value c.in-Done.is
    (c.in_ok-add_literal-in-Done.ensures.tree c.args.names.now)

pub add_term-returns-in-Standing-clause-tree : goal.add_term-returns-in-Standing-clause-tree
add_term-returns-in-Standing-clause-tree t c =
    standing_none c.args.term.now c.in-Standing.field-0 c.in-Standing.field-1 c.in-Standing.is

pub add_term-returns-in-Some-2-clause-grows : goal.add_term-returns-in-Some-2-clause-grows
add_term-returns-in-Some-2-clause-grows t c =
    parts_grow c.add_part.result c.args.names.now c.add_terms.new.names c.add_terms-in-Part.new.names
    c.add_part.new.names c.args.table.now c.add_terms.new.table c.add_terms-in-Part.new.table c.add_part.new.table
    c.in_ok-now-in-Part.field-0 c.in_ok-later-in-Part.field-0 c.in-Some.now c.in-Some-2.later (terms_view c.in-Part.now)
    (terms_view c.in-Part.later)
    c.in_ok-now-in-Part.ensures.grows c.in_ok-later-in-Part.ensures.grows c.in-Some.is c.in_ok-now-in-Part.ensures.trees
    c.in-Some-2.is c.in_ok-later-in-Part.ensures.trees c.add_part.ensures.grows

pub add_term-returns-in-Some-2-clause-tree : goal.add_term-returns-in-Some-2-clause-tree
add_term-returns-in-Some-2-clause-tree t c =
    parts_tree c.add_part.result c.add_terms.new.names c.add_terms-in-Part.new.names c.add_part.new.names
    c.add_terms.new.table c.add_terms-in-Part.new.table c.add_part.new.table
    c.in_ok-now-in-Part.field-0 c.in_ok-later-in-Part.field-0 c.in-Some.now c.in-Some-2.later c.args.term.now
    c.in-Part.form c.deref.result.now c.in-Part.now c.in-Part.later c.in-Part.is c.deref.ensures
    c.in_ok-later-in-Part.ensures.grows
    c.in-Some.is c.in_ok-now-in-Part.ensures.trees c.in-Some-2.is c.in_ok-later-in-Part.ensures.trees
    c.add_part.ensures.tree

pub add_items-returns-in-None-clause-trees : goal.add_items-returns-in-None-clause-trees
add_items-returns-in-None-clause-trees t c =
    items_none c.add_term.new.names c.add_term.new.table c.deref-item-items.result.now c.args.items.now.items
    c.loop-item.item-index c.item-item.result c.in_ok-node.field-0 c.loop-item-test.true c.item-item.is c.in-None.is
    c.in_ok-node.ensures.tree c.deref-item-items.ensures.value

pub add_items-loop-item-preserved : goal.add_items-loop-item-preserved
add_items-loop-item-preserved t c = record {
  grows =
      grows_twice c.args.names.now c.loop-item.names c.add_term.new.names c.args.table.now c.loop-item.table
      c.add_term.new.table c.loop-item.invariant.grows c.in_ok-node.ensures.grows;
  trees =
      items_step c.loop-item.names c.add_term.new.names c.loop-item.table c.add_term.new.table c.loop-item.nodes.items
      c.push.new.self.items c.deref-item-items.result.now c.loop-item.item-index c.item-item.result c.in-Some.node
      c.in_ok-node.field-0 c.loop-item.invariant.trees c.in_ok-node.ensures.grows c.in-Some.is
      c.in_ok-node.ensures.tree c.in_ok-push-in-Some.ensures.items c.loop-item-test.true c.item-item.is;
}
