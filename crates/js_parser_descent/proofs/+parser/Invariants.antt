use Rattle.std.proofs.Common.{◌*◌, ◌+◌, false, length, map, true}
use Rattle.js_parser_readers.specs.Views.{tokens_view}
use Rattle.js_parser_readers.proofs.ListReadLemmas.{ReadsElements, ReadsOthers, ReadsMembers}
use Rattle.js_parser_descent.proofs.+parser.Given as goal
use Rattle.js_tree.specs.Views.{declarator_view, statement_view}
use Rattle.js_parser_readers.specs.Context.{context_view}
use Rattle.js_parser_readers.proofs.ListLemmas.{ReadsStatements, ReadsDeclarators}
use Rattle.js_parser_readers.proofs.PlacedListLemmas.{before_commas}
use Rattle.js_parser_readers.specs.Placed.{Placed}
use Rattle.js_parser_language.specs.Places.{behind_commas, declarator_places, expression_places, in_turn, property_places, statement_places, with_commas}

abbrev pub decreases-arrows::arrow_of_one : goal.decreases-arrows::arrow_of_one
decreases-arrows::arrow_of_one l = 1024 * l.room + 865

abbrev pub decreases-arrows::arrow_of_list : goal.decreases-arrows::arrow_of_list
decreases-arrows::arrow_of_list l = 1024 * l.room + 860

abbrev pub decreases-arrows::arrow_of_names : goal.decreases-arrows::arrow_of_names
decreases-arrows::arrow_of_names l = 1024 * l.room + 855

abbrev pub decreases-arrows::arrow_rest : goal.decreases-arrows::arrow_rest
decreases-arrows::arrow_rest l = 1024 * l.room + 850

abbrev pub decreases-arrows::arrow_block_at : goal.decreases-arrows::arrow_block_at
decreases-arrows::arrow_block_at l = 1024 * l.room + 845

abbrev pub decreases-calls::call_below : goal.decreases-calls::call_below
decreases-calls::call_below l = 1024 * l.room

abbrev pub decreases-calls::call_at : goal.decreases-calls::call_at
decreases-calls::call_at l = 1024 * l.room + 810

abbrev pub decreases-calls::links_at : goal.decreases-calls::links_at
decreases-calls::links_at l = 1024 * l.room + 300 + l.turns

abbrev pub decreases-calls::linked_at : goal.decreases-calls::linked_at
decreases-calls::linked_at l = 1024 * l.room + 290

abbrev pub decreases-calls::indexed_at : goal.decreases-calls::indexed_at
decreases-calls::indexed_at l = 1024 * l.room + 270

abbrev pub decreases-calls::called_at : goal.decreases-calls::called_at
decreases-calls::called_at l = 1024 * l.room + 280

abbrev pub decreases-expressions::expression_below : goal.decreases-expressions::expression_below
decreases-expressions::expression_below l = 1024 * l.room

abbrev pub decreases-expressions::assignment_below : goal.decreases-expressions::assignment_below
decreases-expressions::assignment_below l = 1024 * l.room

abbrev pub decreases-expressions::expression_at : goal.decreases-expressions::expression_at
decreases-expressions::expression_at l = 1024 * l.room + 885

abbrev pub decreases-expressions::comma_at : goal.decreases-expressions::comma_at
decreases-expressions::comma_at l = 1024 * l.room + 880

abbrev pub decreases-expressions::assignment_at : goal.decreases-expressions::assignment_at
decreases-expressions::assignment_at l = 1024 * l.room + 870

abbrev pub decreases-expressions::joined_at : goal.decreases-expressions::joined_at
decreases-expressions::joined_at l = 1024 * l.room + 735

abbrev pub decreases-expressions::conditional_at : goal.decreases-expressions::conditional_at
decreases-expressions::conditional_at l = 1024 * l.room + 730

abbrev pub decreases-expressions::assigned_at : goal.decreases-expressions::assigned_at
decreases-expressions::assigned_at l = 1024 * l.room + 725

abbrev pub decreases-lists::arguments_before : goal.decreases-lists::arguments_before
decreases-lists::arguments_before l = 1024 * l.room + 250

abbrev pub decreases-lists::elements_before : goal.decreases-lists::elements_before
decreases-lists::elements_before l = 1024 * l.room + 240

abbrev pub decreases-lists::more_assignments : goal.decreases-lists::more_assignments
decreases-lists::more_assignments l = 1024 * l.room + 230

abbrev pub decreases-objects::properties_at : goal.decreases-objects::properties_at
decreases-objects::properties_at l = 1024 * l.room + 660

abbrev pub decreases-objects::members_before : goal.decreases-objects::members_before
decreases-objects::members_before l = 1024 * l.room + 650

abbrev pub decreases-objects::property_at : goal.decreases-objects::property_at
decreases-objects::property_at l = 1024 * l.room + 640

abbrev pub decreases-objects::valued_at : goal.decreases-objects::valued_at
decreases-objects::valued_at l = 1024 * l.room + 600

abbrev pub decreases-objects::method_at : goal.decreases-objects::method_at
decreases-objects::method_at l = 1024 * l.room + 600

abbrev pub decreases-objects::key_at : goal.decreases-objects::key_at
decreases-objects::key_at l = 1024 * l.room + 600

abbrev pub decreases-operators::operation_below : goal.decreases-operators::operation_below
decreases-operators::operation_below l = 1024 * l.room

abbrev pub decreases-operators::unary_below : goal.decreases-operators::unary_below
decreases-operators::unary_below l = 1024 * l.room

abbrev pub decreases-operators::operation_at : goal.decreases-operators::operation_at
decreases-operators::operation_at l = 1024 * l.room + 835

abbrev pub decreases-operators::chain_at : goal.decreases-operators::chain_at
decreases-operators::chain_at l = 1024 * l.room + 300 + l.turns

abbrev pub decreases-operators::unary_at : goal.decreases-operators::unary_at
decreases-operators::unary_at l = 1024 * l.room + 830

abbrev pub decreases-operators::deleted_at : goal.decreases-operators::deleted_at
decreases-operators::deleted_at l = 1024 * l.room + 825

abbrev pub decreases-operators::updated_at : goal.decreases-operators::updated_at
decreases-operators::updated_at l = 1024 * l.room + 820

abbrev pub decreases-operators::postfix_at : goal.decreases-operators::postfix_at
decreases-operators::postfix_at l = 1024 * l.room + 815

abbrev pub decreases-primaries::primary_at : goal.decreases-primaries::primary_at
decreases-primaries::primary_at l = 1024 * l.room + 805

abbrev pub decreases-primaries::parenthesized_at : goal.decreases-primaries::parenthesized_at
decreases-primaries::parenthesized_at l = 1024 * l.room + 765

abbrev pub decreases-primaries::array_at : goal.decreases-primaries::array_at
decreases-primaries::array_at l = 1024 * l.room + 775

abbrev pub decreases-primaries::object_at : goal.decreases-primaries::object_at
decreases-primaries::object_at l = 1024 * l.room + 800

abbrev pub decreases-primaries::function_at : goal.decreases-primaries::function_at
decreases-primaries::function_at l = 1024 * l.room + 770

abbrev pub invariant-lists::elements_before-elements : goal.invariant-lists::elements_before-elements
invariant-lists::elements_before-elements l = record {
  read : ReadsElements l.room l.closer (tokens_view l.tokens)
      l.items.items l.height (tokens_view l.rest);
  placed : Placed false l.fn.nodes l.nodes
      (before_commas (map expression_places l.items.items)) (tokens_view l.tokens) (tokens_view l.rest);
}

abbrev pub decreases-lists::elements_before-elements : goal.decreases-lists::elements_before-elements
decreases-lists::elements_before-elements l = length l.rest

abbrev pub invariant-lists::more_assignments-others : goal.invariant-lists::more_assignments-others
invariant-lists::more_assignments-others l = record {
  read : ReadsOthers l.room (tokens_view l.tokens)
      l.items.items l.height (tokens_view l.rest);
  placed : Placed false l.fn.nodes l.nodes
      (behind_commas (map expression_places l.items.items)) (tokens_view l.tokens) (tokens_view l.rest);
}

abbrev pub decreases-lists::more_assignments-others : goal.decreases-lists::more_assignments-others
decreases-lists::more_assignments-others l = length l.rest

abbrev pub invariant-objects::members_before-members : goal.invariant-objects::members_before-members
invariant-objects::members_before-members l = record {
  read : ReadsMembers l.room (tokens_view l.tokens)
      l.members.items l.height (tokens_view l.rest);
  placed : Placed false l.fn.nodes l.nodes
      (before_commas (map property_places l.members.items)) (tokens_view l.tokens) (tokens_view l.rest);
}

abbrev pub decreases-objects::members_before-members : goal.decreases-objects::members_before-members
decreases-objects::members_before-members l = length l.rest

abbrev pub decreases-blocks::block_below : goal.decreases-blocks::block_below
decreases-blocks::block_below l = 1024 * l.room

abbrev pub decreases-blocks::function_below : goal.decreases-blocks::function_below
decreases-blocks::function_below l = 1024 * l.room

abbrev pub decreases-declarations::item_below : goal.decreases-declarations::item_below
decreases-declarations::item_below l = 1024 * l.room

abbrev pub decreases-statements::statement_below : goal.decreases-statements::statement_below
decreases-statements::statement_below l = 1024 * l.room

abbrev pub decreases-declarations::item_at : goal.decreases-declarations::item_at
decreases-declarations::item_at l = 1024 * l.room + 260

abbrev pub decreases-statements::statement_at : goal.decreases-statements::statement_at
decreases-statements::statement_at l = 1024 * l.room + 250

abbrev pub decreases-declarations::lexical_at : goal.decreases-declarations::lexical_at
decreases-declarations::lexical_at l = 1024 * l.room + 245

abbrev pub decreases-declarations::declaration_at : goal.decreases-declarations::declaration_at
decreases-declarations::declaration_at l = 1024 * l.room + 240

abbrev pub decreases-statements::block_at : goal.decreases-statements::block_at
decreases-statements::block_at l = 1024 * l.room + 230

abbrev pub decreases-statements::if_at : goal.decreases-statements::if_at
decreases-statements::if_at l = 1024 * l.room + 230

abbrev pub decreases-loops::do_at : goal.decreases-loops::do_at
decreases-loops::do_at l = 1024 * l.room + 230

abbrev pub decreases-loops::while_at : goal.decreases-loops::while_at
decreases-loops::while_at l = 1024 * l.room + 230

abbrev pub decreases-loops::for_at : goal.decreases-loops::for_at
decreases-loops::for_at l = 1024 * l.room + 230

abbrev pub decreases-statements::return_at : goal.decreases-statements::return_at
decreases-statements::return_at l = 1024 * l.room + 230

abbrev pub decreases-statements::throw_at : goal.decreases-statements::throw_at
decreases-statements::throw_at l = 1024 * l.room + 230

abbrev pub decreases-exceptions::try_at : goal.decreases-exceptions::try_at
decreases-exceptions::try_at l = 1024 * l.room + 230

abbrev pub decreases-statements::expression_statement_at : goal.decreases-statements::expression_statement_at
decreases-statements::expression_statement_at l = 1024 * l.room + 230

abbrev pub decreases-loops::for_of_at : goal.decreases-loops::for_of_at
decreases-loops::for_of_at l = 1024 * l.room + 220

abbrev pub decreases-loops::for_lexical_at : goal.decreases-loops::for_lexical_at
decreases-loops::for_lexical_at l = 1024 * l.room + 220

abbrev pub decreases-loops::for_plain_at : goal.decreases-loops::for_plain_at
decreases-loops::for_plain_at l = 1024 * l.room + 220

abbrev pub decreases-exceptions::handler_at : goal.decreases-exceptions::handler_at
decreases-exceptions::handler_at l = 1024 * l.room + 220

abbrev pub decreases-exceptions::finalizer_at : goal.decreases-exceptions::finalizer_at
decreases-exceptions::finalizer_at l = 1024 * l.room + 220

abbrev pub decreases-exceptions::catch_at : goal.decreases-exceptions::catch_at
decreases-exceptions::catch_at l = 1024 * l.room + 210

abbrev pub decreases-blocks::code_at : goal.decreases-blocks::code_at
decreases-blocks::code_at l = 1024 * l.room + 190

abbrev pub decreases-blocks::braces_at : goal.decreases-blocks::braces_at
decreases-blocks::braces_at l = 1024 * l.room + 180

abbrev pub decreases-blocks::items_at : goal.decreases-blocks::items_at
decreases-blocks::items_at l = 1024 * l.room + 170

abbrev pub decreases-declarations::declarators_at : goal.decreases-declarations::declarators_at
decreases-declarations::declarators_at l = 1024 * l.room + 160

abbrev pub decreases-declarations::declarator_at : goal.decreases-declarations::declarator_at
decreases-declarations::declarator_at l = 1024 * l.room + 150

abbrev pub decreases-statements::optional_before : goal.decreases-statements::optional_before
decreases-statements::optional_before l = 1024 * l.room + 140

abbrev pub decreases-statements::ended_expression : goal.decreases-statements::ended_expression
decreases-statements::ended_expression l = 1024 * l.room + 140

abbrev pub invariant-blocks::items_at-items : goal.invariant-blocks::items_at-items
invariant-blocks::items_at-items l = record {
  read : ReadsStatements l.room (context_view l.context) l.fn.names
      (tokens_view l.tokens) (map statement_view l.items.items) l.read.0 l.names
      (tokens_view l.read.1.now);
  placed : Placed false l.fn.nodes l.nodes (in_turn (map statement_places l.items.items))
      (tokens_view l.tokens) (tokens_view l.read.1.now);
}

abbrev pub decreases-blocks::items_at-items : goal.decreases-blocks::items_at-items
decreases-blocks::items_at-items l = length l.read.1.now

abbrev pub invariant-declarations::declarators_at-others : goal.invariant-declarations::declarators_at-others
invariant-declarations::declarators_at-others l = record {
  read : ReadsDeclarators l.room l.constant l.fn.names
      (tokens_view l.tokens) (map declarator_view l.items.items) l.read.0 l.names
      (tokens_view l.read.1.now);
  placed : Placed true l.fn.nodes l.nodes
      (with_commas (map declarator_places l.items.items)) (tokens_view l.tokens) (tokens_view l.read.1.now);
}

abbrev pub decreases-declarations::declarators_at-others : goal.decreases-declarations::declarators_at-others
decreases-declarations::declarators_at-others l = length l.read.1.now
