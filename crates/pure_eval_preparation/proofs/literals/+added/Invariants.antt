use Rattle.std.proofs.Common.{◌≡◌, ◌++◌, drop, map}
use Rattle.js_tree.specs.Views.{expressions, properties, declarators, statements, expression_view, property_view, declarator_view, statement_view}
use Rattle.js_semantics.specs.Literals as literals
use Rattle.pure_eval_preparation.proofs.literals.+added.Given as goal

abbrev pub invariant-add_expression_items-loop-item : goal.invariant-add_expression_items-loop-item
invariant-add_expression_items-loop-item l =
    l.found.items ++ literals.expressions_literals (expressions (map expression_view (drop l.item-index l.item-items)))
    ≡ l.fn.found.items ++ literals.expressions_literals (expressions (map expression_view l.item-items))

abbrev pub invariant-add_property_items-loop-item : goal.invariant-add_property_items-loop-item
invariant-add_property_items-loop-item l =
    l.found.items ++ literals.properties_literals (properties (map property_view (drop l.item-index l.item-items)))
    ≡ l.fn.found.items ++ literals.properties_literals (properties (map property_view l.item-items))

abbrev pub invariant-add_declarator_items-loop-item : goal.invariant-add_declarator_items-loop-item
invariant-add_declarator_items-loop-item l =
    l.found.items ++ literals.declarators_literals (declarators (map declarator_view (drop l.item-index l.item-items)))
    ≡ l.fn.found.items ++ literals.declarators_literals (declarators (map declarator_view l.item-items))

abbrev pub invariant-add_statement_items-loop-item : goal.invariant-add_statement_items-loop-item
invariant-add_statement_items-loop-item l =
    l.found.items ++ literals.statements_literals (statements (map statement_view (drop l.item-index l.item-items)))
    ≡ l.fn.found.items ++ literals.statements_literals (statements (map statement_view l.item-items))
