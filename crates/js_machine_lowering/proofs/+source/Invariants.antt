use Rattle.std.proofs.Common.{◌≡◌, ◌-◌, length, take, drop, map}
use Rattle.js_semantics.specs.Terms as semantics
use Rattle.js_semantics.specs.Makers as makers
use Rattle.js_semantics.specs.Sources.{expression_source, property_source, statement_source, declarator_source}
use Rattle.js_machine_terms.specs.Views.{term_view, terms_view}
use Rattle.js_machine_lowering_parts.specs.Sources.{context_of, declarator_term, parts_view}
use Rattle.js_machine_lowering.proofs.+source.Given as goal

abbrev pub invariant-expressions::expression_items-loop-item : goal.invariant-expressions::expression_items-loop-item
invariant-expressions::expression_items-loop-item l = map term_view l.terms.items ≡ map
    (λ e. makers.plain (expression_source e) (context_of l.place)) (take l.item-index l.item-items)

abbrev pub invariant-statements::statement_items-loop-item : goal.invariant-statements::statement_items-loop-item
invariant-statements::statement_items-loop-item l = map term_view l.terms.items ≡ map
    (λ s. (statement_source s).term (context_of l.place)) (take l.item-index l.item-items)

abbrev pub invariant-declarators::declarator_items-loop-item : goal.invariant-declarators::declarator_items-loop-item
invariant-declarators::declarator_items-loop-item l = map term_view l.terms.items ≡ map
    (λ d. declarator_term (declarator_source d) (context_of l.place)) (take l.item-index l.item-items)

abbrev pub invariant-statements::function_items-loop-item : goal.invariant-statements::function_items-loop-item
invariant-statements::function_items-loop-item l = semantics.joined (terms_view l.functions)
    ((makers.items_of (map statement_source (drop l.item-index l.item-items))).functions (context_of l.place)) ≡
    (makers.items_of (map statement_source l.item-items)).functions (context_of l.place)

abbrev pub invariant-objects::property_items-loop-i : goal.invariant-objects::property_items-loop-i
invariant-objects::property_items-loop-i l = parts_view l.parts ≡ makers.properties_parts
    (map property_source (drop (length l.items.items - l.i) l.items.items)) (context_of l.place)
