use Rattle.std.proofs.Common.{◌≡◌, ◌++◌, drop, map}
use Rattle.std.specs.Option.{option_map}
use Rattle.locations.specs.Marks.{together, in_present, expression_marks, property_marks, statement_marks}
use Rattle.locations.proofs.+tree_marks.Given as goal

abbrev pub invariant-expressions::expressions_marks-loop-item : goal.invariant-expressions::expressions_marks-loop-item
invariant-expressions::expressions_marks-loop-item l = l.marks.items ++ together
    (map (λ e. (expression_marks e).marks) (drop l.item-index l.item-items)) ≡ l.fn.marks.items ++ together
    (map (λ e. (expression_marks e).marks) l.item-items)

abbrev pub invariant-statements::statements_marks-loop-item : goal.invariant-statements::statements_marks-loop-item
invariant-statements::statements_marks-loop-item l = l.marks.items ++ together
    (map statement_marks (drop l.item-index l.item-items)) ≡ l.fn.marks.items ++ together
    (map statement_marks l.item-items)

abbrev pub invariant-objects::properties_marks-loop-item : goal.invariant-objects::properties_marks-loop-item
invariant-objects::properties_marks-loop-item l = l.marks.items ++ together
    (map property_marks (drop l.item-index l.item-items)) ≡ l.fn.marks.items ++ together
    (map property_marks l.item-items)

abbrev pub invariant-statements::declarators_marks-loop-item : goal.invariant-statements::declarators_marks-loop-item
invariant-statements::declarators_marks-loop-item l = l.marks.items ++ together
    (map (λ d. in_present (option_map expression_marks d.initializer)) (drop l.item-index l.item-items))
    ≡ l.fn.marks.items ++ together (map (λ d. in_present (option_map expression_marks d.initializer)) l.item-items)
