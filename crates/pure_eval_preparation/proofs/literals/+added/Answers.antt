use Rattle.std.proofs.Common.{ap, refl, ◌∙◌}
use Rattle.js_tree.specs.declared.tree.Expr.{Expr}
use Rattle.js_tree.specs.Targets.{is_target}
use Rattle.js_tree.specs.Views.{expression_view, statement_view, key_view, property_view, optional_view, handler_view, finalizer_view}
use Rattle.js_tree.proofs.ViewLemmas.{view_this, view_name, view_number, view_string, view_boolean, view_null, view_array, view_object, view_function, view_arrow, view_arrow_block, view_parenthesized, view_member, view_index, view_call, view_postfix, view_prefix, view_unary, view_binary, view_conditional, view_assign, view_comma, view_lexical_declaration, view_empty_statement, view_expression_statement, view_do_while_statement, view_while_statement, view_for_statement, view_for_lexical_statement, view_for_of_statement, view_continue_statement, view_break_statement, view_return_statement, view_throw_statement, view_try_statement, view_debugger_statement, view_function_declaration, view_word_key, view_string_key, view_number_key, view_computed_key, view_shorthand_property, view_property, view_method, view_block_statement}
use Rattle.js_semantics.specs.Literals as literals
use Rattle.js_semantics.specs.Literals.{source_literals}
use Rattle.pure_eval_preparation.specs.Items.{literals_of, alternate_literals}
use Rattle.pure_eval_preparation.proofs.AddLemmas.{none_more, both, assigned, both_more, last_more, then_more}
use Rattle.js_tree.proofs.ViewLemmas.{expressions_listed, properties_listed, declarators_listed, statements_listed, block_of, catch_of, declarator_of}
use Rattle.pure_eval_preparation.proofs.TreeLemmas.{declared_of, if_literals, if_declared}
use Rattle.pure_eval_preparation.proofs.literals.+added.Goals as goal

pub add_expression-returns-in-This : goal.add_expression-returns-in-This
add_expression-returns-in-This t c =
    none_more c.args.found.now.items _
    (ap literals.expression_literals (ap expression_view c.in-This.is ∙ view_this c.in-This.node))

pub add_expression-returns-in-Name : goal.add_expression-returns-in-Name
add_expression-returns-in-Name t c =
    none_more c.args.found.now.items _
    (ap literals.expression_literals (ap expression_view c.in-Name.is ∙ view_name c.in-Name.node c.in-Name.name))

pub add_expression-returns-in-Number : goal.add_expression-returns-in-Number
add_expression-returns-in-Number t c =
    none_more c.args.found.now.items _
    (ap literals.expression_literals
    (ap expression_view c.in-Number.is ∙ view_number c.in-Number.node c.in-Number.value))

pub add_expression-returns-in-Boolean : goal.add_expression-returns-in-Boolean
add_expression-returns-in-Boolean t c =
    none_more c.args.found.now.items _
    (ap literals.expression_literals
    (ap expression_view c.in-Boolean.is ∙ view_boolean c.in-Boolean.node c.in-Boolean.value))

pub add_expression-returns-in-Null : goal.add_expression-returns-in-Null
add_expression-returns-in-Null t c =
    none_more c.args.found.now.items _
    (ap literals.expression_literals (ap expression_view c.in-Null.is ∙ view_null c.in-Null.node))

pub add_expression-returns-in-String : goal.add_expression-returns-in-String
add_expression-returns-in-String t c = last_more _ c.args.found.now.items _ _ _ _ c.add_literal.ensures
    (ap literals.expression_literals
    (ap expression_view c.in-String.is ∙ view_string c.in-String.node c.in-String.value))
    refl

pub add_expression-returns-in-Array : goal.add_expression-returns-in-Array
add_expression-returns-in-Array t c = last_more _ c.args.found.now.items _ _ _ _ c.add_expressions.ensures
    (ap literals.expression_literals
    (ap expression_view c.in-Array.is ∙ view_array c.in-Array.node c.in-Array.elements))
    refl

pub add_expression-returns-in-Object : goal.add_expression-returns-in-Object
add_expression-returns-in-Object t c = last_more _ c.args.found.now.items _ _ _ _ c.add_properties.ensures
    (ap literals.expression_literals
    (ap expression_view c.in-Object.is ∙ view_object c.in-Object.node c.in-Object.properties))
    refl

pub add_expression-returns-in-Function : goal.add_expression-returns-in-Function
add_expression-returns-in-Function t c = last_more _ c.args.found.now.items _ _ _ _ c.add_statements.ensures
    (ap literals.expression_literals
    (ap expression_view c.in-Function.is
    ∙ view_function c.in-Function.node c.in-Function.name c.in-Function.parameters c.in-Function.body))
    refl

pub add_expression-returns-in-Arrow : goal.add_expression-returns-in-Arrow
add_expression-returns-in-Arrow t c = last_more _ c.args.found.now.items _ _ _ _ c.add_expression.ensures
    (ap literals.expression_literals
    (ap expression_view c.in-Arrow.is ∙ view_arrow c.in-Arrow.node c.in-Arrow.parameters c.in-Arrow.body))
    (ap source_literals c.deref.ensures)

pub add_expression-returns-in-ArrowBlock : goal.add_expression-returns-in-ArrowBlock
add_expression-returns-in-ArrowBlock t c =
    last_more _ c.args.found.now.items _ _ _ _ c.add_statements-in-ArrowBlock.ensures
    (ap literals.expression_literals
    (ap expression_view c.in-ArrowBlock.is
    ∙ view_arrow_block c.in-ArrowBlock.node c.in-ArrowBlock.parameters c.in-ArrowBlock.body))
    refl

pub add_expression-returns-in-Parenthesized : goal.add_expression-returns-in-Parenthesized
add_expression-returns-in-Parenthesized t c =
    last_more _ c.args.found.now.items _ _ _ _ c.add_expression-in-Parenthesized.ensures
    (ap literals.expression_literals
    (ap expression_view c.in-Parenthesized.is
    ∙ view_parenthesized c.in-Parenthesized.node c.in-Parenthesized.inner))
    (ap source_literals c.deref-in-Parenthesized.ensures)

pub add_expression-returns-in-Member : goal.add_expression-returns-in-Member
add_expression-returns-in-Member t c = last_more _ c.args.found.now.items _ _ _ _ c.add_expression-in-Member.ensures
    (ap literals.expression_literals
    (ap expression_view c.in-Member.is ∙ view_member c.in-Member.node c.in-Member.object c.in-Member.name))
    (ap source_literals c.deref-in-Member.ensures)

pub add_expression-returns-in_ok-add_expression-in-Index : goal.add_expression-returns-in_ok-add_expression-in-Index
add_expression-returns-in_ok-add_expression-in-Index t c =
    then_more _ c.args.found.now.items _ _ _ _ _ _ _ c.in_ok-add_expression-in-Index.ensures
    c.add_expression-in-Index-2.ensures
    (ap literals.expression_literals
    (ap expression_view c.in-Index.is ∙ view_index c.in-Index.node c.in-Index.object c.in-Index.key))
    (ap source_literals c.deref-in-Index.ensures) (ap source_literals c.deref-in-Index-2.ensures)

pub add_expression-returns-in_ok-add_expression-in-Call : goal.add_expression-returns-in_ok-add_expression-in-Call
add_expression-returns-in_ok-add_expression-in-Call t c =
    then_more _ c.args.found.now.items _ _ _ _ _ _ _ c.in_ok-add_expression-in-Call.ensures
    c.add_expressions-in-Call.ensures
    (ap literals.expression_literals
    (ap expression_view c.in-Call.is
    ∙ view_call c.in-Call.node c.in-Call.callee c.in-Call.parentheses c.in-Call.arguments))
    (ap source_literals c.deref-in-Call.ensures) refl

pub add_expression-returns-in-Postfix : goal.add_expression-returns-in-Postfix
add_expression-returns-in-Postfix t c = last_more _ c.args.found.now.items _ _ _ _ c.add_expression-in-Postfix.ensures
    (ap literals.expression_literals
    (ap expression_view c.in-Postfix.is
    ∙ view_postfix c.in-Postfix.node c.in-Postfix.operator c.in-Postfix.operand))
    (ap source_literals c.deref-in-Postfix.ensures)

pub add_expression-returns-in-Prefix : goal.add_expression-returns-in-Prefix
add_expression-returns-in-Prefix t c = last_more _ c.args.found.now.items _ _ _ _ c.add_expression-in-Prefix.ensures
    (ap literals.expression_literals
    (ap expression_view c.in-Prefix.is ∙ view_prefix c.in-Prefix.node c.in-Prefix.operator c.in-Prefix.operand))
    (ap source_literals c.deref-in-Prefix.ensures)

pub add_expression-returns-in-Unary : goal.add_expression-returns-in-Unary
add_expression-returns-in-Unary t c = last_more _ c.args.found.now.items _ _ _ _ c.add_expression-in-Unary.ensures
    (ap literals.expression_literals
    (ap expression_view c.in-Unary.is ∙ view_unary c.in-Unary.node c.in-Unary.operator c.in-Unary.operand))
    (ap source_literals c.deref-in-Unary.ensures)

pub add_expression-returns-in_ok-add_expression-in-Binary : goal.add_expression-returns-in_ok-add_expression-in-Binary
add_expression-returns-in_ok-add_expression-in-Binary t c =
    then_more _ c.args.found.now.items _ _ _ _ _ _ _ c.in_ok-add_expression-in-Binary.ensures
    c.add_expression-in-Binary-2.ensures
    (ap literals.expression_literals
    (ap expression_view c.in-Binary.is
    ∙ view_binary c.in-Binary.node c.in-Binary.operator c.in-Binary.left c.in-Binary.right))
    (ap source_literals c.deref-in-Binary.ensures) (ap source_literals c.deref-in-Binary-2.ensures)

pub add_expression-returns-in_ok-add_expression-in-Conditional-2 :
    goal.add_expression-returns-in_ok-add_expression-in-Conditional-2
add_expression-returns-in_ok-add_expression-in-Conditional-2 t c =
    then_more _ c.args.found.now.items _ _ _ _ _ _ _
    (both_more _ _ _ _ _ c.in_ok-add_expression-in-Conditional.ensures c.in_ok-add_expression-in-Conditional-2.ensures)
    c.add_expression-in-Conditional-3.ensures
    (ap literals.expression_literals
    (ap expression_view c.in-Conditional.is
    ∙ view_conditional c.in-Conditional.node c.in-Conditional.test c.in-Conditional.consequent
    c.in-Conditional.alternate))
    (both _ _ _ _ (ap source_literals c.deref-in-Conditional.ensures)
    (ap source_literals c.deref-in-Conditional-2.ensures))
    (ap source_literals c.deref-in-Conditional-3.ensures)

pub add_expression-returns-in_ok-add_expression-in-Assign : goal.add_expression-returns-in_ok-add_expression-in-Assign
add_expression-returns-in_ok-add_expression-in-Assign t c =
    then_more _ c.args.found.now.items _ _ _ _ _ _ _ c.in_ok-add_expression-in-Assign.ensures c.add_assigned.ensures
    (ap literals.expression_literals
    (ap expression_view c.in-Assign.is
    ∙ view_assign c.in-Assign.node c.in-Assign.operator c.in-Assign.target c.in-Assign.value))
    (ap source_literals c.deref-in-Assign.ensures)
    (assigned _ _ _ _
    (c.is_target.ensures
    ∙ ap (λ (e : Expr). is_target (expression_view e)) c.deref-in-Assign-3.ensures)
    c.deref-in-Assign-2.ensures)

pub add_expression-returns-in-Comma : goal.add_expression-returns-in-Comma
add_expression-returns-in-Comma t c = last_more _ c.args.found.now.items _ _ _ _ c.add_expressions-in-Comma.ensures
    (ap literals.expression_literals
    (ap expression_view c.in-Comma.is ∙ view_comma c.in-Comma.node c.in-Comma.expressions))
    refl

pub add_statement-returns-in-Empty : goal.add_statement-returns-in-Empty
add_statement-returns-in-Empty t c =
    none_more c.args.found.now.items _
    (ap literals.statement_literals (ap statement_view c.in-Empty.is ∙ view_empty_statement c.in-Empty.node))

pub add_statement-returns-in-Continue : goal.add_statement-returns-in-Continue
add_statement-returns-in-Continue t c =
    none_more c.args.found.now.items _
    (ap literals.statement_literals
    (ap statement_view c.in-Continue.is ∙ view_continue_statement c.in-Continue.node))

pub add_statement-returns-in-Break : goal.add_statement-returns-in-Break
add_statement-returns-in-Break t c =
    none_more c.args.found.now.items _
    (ap literals.statement_literals (ap statement_view c.in-Break.is ∙ view_break_statement c.in-Break.node))

pub add_statement-returns-in-Debugger : goal.add_statement-returns-in-Debugger
add_statement-returns-in-Debugger t c =
    none_more c.args.found.now.items _
    (ap literals.statement_literals
    (ap statement_view c.in-Debugger.is ∙ view_debugger_statement c.in-Debugger.node))

pub add_statement-returns-in-FunctionDeclaration : goal.add_statement-returns-in-FunctionDeclaration
add_statement-returns-in-FunctionDeclaration t c =
    none_more c.args.found.now.items _
    (ap literals.statement_literals
    (ap statement_view c.in-FunctionDeclaration.is
    ∙ view_function_declaration c.in-FunctionDeclaration.node c.in-FunctionDeclaration.name
    c.in-FunctionDeclaration.parameters c.in-FunctionDeclaration.body))

pub add_statement-returns-in-Block : goal.add_statement-returns-in-Block
add_statement-returns-in-Block t c = last_more _ c.args.found.now.items _ _ _ _ c.add_block.ensures
    (ap literals.statement_literals (ap statement_view c.in-Block.is ∙ view_block_statement c.in-Block.block))
    refl

pub add_statement-returns-in-Lexical : goal.add_statement-returns-in-Lexical
add_statement-returns-in-Lexical t c = last_more _ c.args.found.now.items _ _ _ _ c.add_declarators.ensures
    (ap literals.statement_literals
    (ap statement_view c.in-Lexical.is
    ∙ view_lexical_declaration c.in-Lexical.node c.in-Lexical.constant c.in-Lexical.declarators))
    refl

pub add_statement-returns-in-Expression : goal.add_statement-returns-in-Expression
add_statement-returns-in-Expression t c = last_more _ c.args.found.now.items _ _ _ _ c.add_expression.ensures
    (ap literals.statement_literals
    (ap statement_view c.in-Expression.is
    ∙ view_expression_statement c.in-Expression.node c.in-Expression.expression))
    refl

pub add_statement-returns-in_ok-add_statement-in-If : goal.add_statement-returns-in_ok-add_statement-in-If
add_statement-returns-in_ok-add_statement-in-If t c =
    then_more _ c.args.found.now.items _ _ _ _ _ _ _
    (both_more _ _ _ _ _ c.in_ok-add_expression-in-If.ensures c.in_ok-add_statement-in-If.ensures)
    c.add_alternate.ensures
    (ap literals_of c.in-If.is ∙ if_literals c.in-If.node c.in-If.test c.in-If.consequent c.in-If.alternate)
    (both _ _ _ _ refl (ap literals_of c.deref.ensures)) refl

pub add_statement-returns-in_ok-add_statement-in-DoWhile : goal.add_statement-returns-in_ok-add_statement-in-DoWhile
add_statement-returns-in_ok-add_statement-in-DoWhile t c =
    then_more _ c.args.found.now.items _ _ _ _ _ _ _ c.in_ok-add_statement-in-DoWhile.ensures
    c.add_expression-in-DoWhile.ensures
    (ap literals.statement_literals
    (ap statement_view c.in-DoWhile.is
    ∙ view_do_while_statement c.in-DoWhile.node c.in-DoWhile.body c.in-DoWhile.test))
    (ap literals_of c.deref-in-DoWhile.ensures) refl

pub add_statement-returns-in_ok-add_expression-in-While : goal.add_statement-returns-in_ok-add_expression-in-While
add_statement-returns-in_ok-add_expression-in-While t c =
    then_more _ c.args.found.now.items _ _ _ _ _ _ _ c.in_ok-add_expression-in-While.ensures
    c.add_statement-in-While.ensures
    (ap literals.statement_literals
    (ap statement_view c.in-While.is ∙ view_while_statement c.in-While.node c.in-While.test c.in-While.body))
    refl (ap literals_of c.deref-in-While.ensures)

pub add_statement-returns-in_ok-add_optional-in-For-3 : goal.add_statement-returns-in_ok-add_optional-in-For-3
add_statement-returns-in_ok-add_optional-in-For-3 t c =
    then_more _ c.args.found.now.items _ _ _ _ _ _ _
    (both_more _ _ _ _ _
    (both_more _ _ _ _ _ c.in_ok-add_optional-in-For.ensures c.in_ok-add_optional-in-For-2.ensures)
    c.in_ok-add_optional-in-For-3.ensures)
    c.add_statement-in-For.ensures
    (ap literals.statement_literals
    (ap statement_view c.in-For.is
    ∙ view_for_statement c.in-For.node c.in-For.initializer c.in-For.test c.in-For.update c.in-For.body))
    refl (ap literals_of c.deref-in-For.ensures)

pub add_statement-returns-in_ok-add_optional-in-ForLexical-2 :
    goal.add_statement-returns-in_ok-add_optional-in-ForLexical-2
add_statement-returns-in_ok-add_optional-in-ForLexical-2 t c =
    then_more _ c.args.found.now.items _ _ _ _ _ _ _
    (both_more _ _ _ _ _
    (both_more _ _ _ _ _ c.in_ok-add_declarators-in-ForLexical.ensures c.in_ok-add_optional-in-ForLexical.ensures)
    c.in_ok-add_optional-in-ForLexical-2.ensures)
    c.add_statement-in-ForLexical.ensures
    (ap literals.statement_literals
    (ap statement_view c.in-ForLexical.is
    ∙ view_for_lexical_statement c.in-ForLexical.node c.in-ForLexical.constant c.in-ForLexical.declarators
    c.in-ForLexical.test c.in-ForLexical.update c.in-ForLexical.body))
    refl (ap literals_of c.deref-in-ForLexical.ensures)

pub add_statement-returns-in_ok-add_expression-in-ForOf : goal.add_statement-returns-in_ok-add_expression-in-ForOf
add_statement-returns-in_ok-add_expression-in-ForOf t c =
    then_more _ c.args.found.now.items _ _ _ _ _ _ _ c.in_ok-add_expression-in-ForOf.ensures
    c.add_statement-in-ForOf.ensures
    (ap literals.statement_literals
    (ap statement_view c.in-ForOf.is
    ∙ view_for_of_statement c.in-ForOf.node c.in-ForOf.constant c.in-ForOf.name c.in-ForOf.list c.in-ForOf.body))
    refl (ap literals_of c.deref-in-ForOf.ensures)

pub add_statement-returns-in-Return : goal.add_statement-returns-in-Return
add_statement-returns-in-Return t c = last_more _ c.args.found.now.items _ _ _ _ c.add_optional-in-Return.ensures
    (ap literals.statement_literals
    (ap statement_view c.in-Return.is ∙ view_return_statement c.in-Return.node c.in-Return.value))
    refl

pub add_statement-returns-in-Throw : goal.add_statement-returns-in-Throw
add_statement-returns-in-Throw t c = last_more _ c.args.found.now.items _ _ _ _ c.add_expression-in-Throw.ensures
    (ap literals.statement_literals
    (ap statement_view c.in-Throw.is ∙ view_throw_statement c.in-Throw.node c.in-Throw.value))
    refl

pub add_statement-returns-in_ok-add_handler-in-Try : goal.add_statement-returns-in_ok-add_handler-in-Try
add_statement-returns-in_ok-add_handler-in-Try t c =
    then_more _ c.args.found.now.items _ _ _ _ _ _ _
    (both_more _ _ _ _ _ c.in_ok-add_block-in-Try.ensures c.in_ok-add_handler-in-Try.ensures)
    c.add_finalizer.ensures
    (ap literals.statement_literals
    (ap statement_view c.in-Try.is
    ∙ view_try_statement c.in-Try.node c.in-Try.block c.in-Try.handler c.in-Try.finalizer))
    refl refl

pub add_declared-returns-in-Block : goal.add_declared-returns-in-Block
add_declared-returns-in-Block t c =
    none_more c.args.found.now.items _
    (ap literals.declared_literals (ap statement_view c.in-Block.is ∙ view_block_statement c.in-Block.field-0))

pub add_declared-returns-in-Lexical : goal.add_declared-returns-in-Lexical
add_declared-returns-in-Lexical t c =
    none_more c.args.found.now.items _
    (ap literals.declared_literals
    (ap statement_view c.in-Lexical.is
    ∙ view_lexical_declaration c.in-Lexical.node c.in-Lexical.constant c.in-Lexical.declarators))

pub add_declared-returns-in-Empty : goal.add_declared-returns-in-Empty
add_declared-returns-in-Empty t c =
    none_more c.args.found.now.items _
    (ap literals.declared_literals (ap statement_view c.in-Empty.is ∙ view_empty_statement c.in-Empty.node))

pub add_declared-returns-in-Expression : goal.add_declared-returns-in-Expression
add_declared-returns-in-Expression t c =
    none_more c.args.found.now.items _
    (ap literals.declared_literals
    (ap statement_view c.in-Expression.is
    ∙ view_expression_statement c.in-Expression.node c.in-Expression.expression))

pub add_declared-returns-in-DoWhile : goal.add_declared-returns-in-DoWhile
add_declared-returns-in-DoWhile t c =
    none_more c.args.found.now.items _
    (ap literals.declared_literals
    (ap statement_view c.in-DoWhile.is
    ∙ view_do_while_statement c.in-DoWhile.node c.in-DoWhile.body c.in-DoWhile.test))

pub add_declared-returns-in-While : goal.add_declared-returns-in-While
add_declared-returns-in-While t c =
    none_more c.args.found.now.items _
    (ap literals.declared_literals
    (ap statement_view c.in-While.is ∙ view_while_statement c.in-While.node c.in-While.test c.in-While.body))

pub add_declared-returns-in-For : goal.add_declared-returns-in-For
add_declared-returns-in-For t c =
    none_more c.args.found.now.items _
    (ap literals.declared_literals
    (ap statement_view c.in-For.is
    ∙ view_for_statement c.in-For.node c.in-For.initializer c.in-For.test c.in-For.update c.in-For.body))

pub add_declared-returns-in-ForLexical : goal.add_declared-returns-in-ForLexical
add_declared-returns-in-ForLexical t c =
    none_more c.args.found.now.items _
    (ap literals.declared_literals
    (ap statement_view c.in-ForLexical.is
    ∙ view_for_lexical_statement c.in-ForLexical.node c.in-ForLexical.constant c.in-ForLexical.declarators
    c.in-ForLexical.test c.in-ForLexical.update c.in-ForLexical.body))

pub add_declared-returns-in-ForOf : goal.add_declared-returns-in-ForOf
add_declared-returns-in-ForOf t c =
    none_more c.args.found.now.items _
    (ap literals.declared_literals
    (ap statement_view c.in-ForOf.is
    ∙ view_for_of_statement c.in-ForOf.node c.in-ForOf.constant c.in-ForOf.name c.in-ForOf.list c.in-ForOf.body))

pub add_declared-returns-in-Continue : goal.add_declared-returns-in-Continue
add_declared-returns-in-Continue t c =
    none_more c.args.found.now.items _
    (ap literals.declared_literals
    (ap statement_view c.in-Continue.is ∙ view_continue_statement c.in-Continue.node))

pub add_declared-returns-in-Break : goal.add_declared-returns-in-Break
add_declared-returns-in-Break t c =
    none_more c.args.found.now.items _
    (ap literals.declared_literals (ap statement_view c.in-Break.is ∙ view_break_statement c.in-Break.node))

pub add_declared-returns-in-Return : goal.add_declared-returns-in-Return
add_declared-returns-in-Return t c =
    none_more c.args.found.now.items _
    (ap literals.declared_literals
    (ap statement_view c.in-Return.is ∙ view_return_statement c.in-Return.node c.in-Return.value))

pub add_declared-returns-in-Throw : goal.add_declared-returns-in-Throw
add_declared-returns-in-Throw t c =
    none_more c.args.found.now.items _
    (ap literals.declared_literals
    (ap statement_view c.in-Throw.is ∙ view_throw_statement c.in-Throw.node c.in-Throw.value))

pub add_declared-returns-in-Try : goal.add_declared-returns-in-Try
add_declared-returns-in-Try t c =
    none_more c.args.found.now.items _
    (ap literals.declared_literals
    (ap statement_view c.in-Try.is
    ∙ view_try_statement c.in-Try.node c.in-Try.block c.in-Try.handler c.in-Try.finalizer))

pub add_declared-returns-in-Debugger : goal.add_declared-returns-in-Debugger
add_declared-returns-in-Debugger t c =
    none_more c.args.found.now.items _
    (ap literals.declared_literals
    (ap statement_view c.in-Debugger.is ∙ view_debugger_statement c.in-Debugger.node))

pub add_declared-returns-in-If : goal.add_declared-returns-in-If
add_declared-returns-in-If t c =
    none_more c.args.found.now.items _
    (ap declared_of c.in-If.is ∙ if_declared c.in-If.node c.in-If.test c.in-If.consequent c.in-If.alternate)

pub add_declared-returns-in-FunctionDeclaration : goal.add_declared-returns-in-FunctionDeclaration
add_declared-returns-in-FunctionDeclaration t c = last_more _ c.args.found.now.items _ _ _ _ c.add_statements.ensures
    (ap literals.declared_literals
    (ap statement_view c.in-FunctionDeclaration.is
    ∙ view_function_declaration c.in-FunctionDeclaration.node c.in-FunctionDeclaration.name
    c.in-FunctionDeclaration.parameters c.in-FunctionDeclaration.body))
    refl

pub add_key-returns-in-Word : goal.add_key-returns-in-Word
add_key-returns-in-Word t c =
    none_more c.args.found.now.items _
    (ap literals.key_literals (ap key_view c.in-Word.is ∙ view_word_key c.in-Word.field-0))

pub add_key-returns-in-StringLiteral : goal.add_key-returns-in-StringLiteral
add_key-returns-in-StringLiteral t c =
    none_more c.args.found.now.items _
    (ap literals.key_literals (ap key_view c.in-StringLiteral.is ∙ view_string_key c.in-StringLiteral.field-0))

pub add_key-returns-in-NumericLiteral : goal.add_key-returns-in-NumericLiteral
add_key-returns-in-NumericLiteral t c =
    none_more c.args.found.now.items _
    (ap literals.key_literals (ap key_view c.in-NumericLiteral.is ∙ view_number_key c.in-NumericLiteral.field-0))

pub add_key-returns-in-Computed : goal.add_key-returns-in-Computed
add_key-returns-in-Computed t c = last_more _ c.args.found.now.items _ _ _ _ c.add_expression.ensures
    (ap literals.key_literals (ap key_view c.in-Computed.is ∙ view_computed_key c.in-Computed.e))
    refl

pub add_property-returns-in-Shorthand : goal.add_property-returns-in-Shorthand
add_property-returns-in-Shorthand t c =
    none_more c.args.found.now.items _
    (ap literals.property_literals
    (ap property_view c.in-Shorthand.is ∙ view_shorthand_property c.in-Shorthand.name))

pub add_property-returns-in_ok-add_key-in-Value : goal.add_property-returns-in_ok-add_key-in-Value
add_property-returns-in_ok-add_key-in-Value t c =
    then_more _ c.args.found.now.items _ _ _ _ _ _ _ c.in_ok-add_key-in-Value.ensures c.add_expression.ensures
    (ap literals.property_literals (ap property_view c.in-Value.is ∙ view_property c.in-Value.key c.in-Value.value))
    refl refl

pub add_property-returns-in_ok-add_key-in-Method : goal.add_property-returns-in_ok-add_key-in-Method
add_property-returns-in_ok-add_key-in-Method t c =
    then_more _ c.args.found.now.items _ _ _ _ _ _ _ c.in_ok-add_key-in-Method.ensures c.add_statements.ensures
    (ap literals.property_literals
    (ap property_view c.in-Method.is
    ∙ view_method c.in-Method.node c.in-Method.key c.in-Method.parameters c.in-Method.body))
    refl refl

pub add_expressions-returns : goal.add_expressions-returns
add_expressions-returns t c =
    last_more _ c.args.found.now.items _ _ _ _ c.add_expression_items.ensures
    (ap literals.expressions_literals (expressions_listed c.args.es.now)) refl

pub add_properties-returns : goal.add_properties-returns
add_properties-returns t c =
    last_more _ c.args.found.now.items _ _ _ _ c.add_property_items.ensures
    (ap literals.properties_literals (properties_listed c.args.ps.now)) refl

pub add_declarators-returns : goal.add_declarators-returns
add_declarators-returns t c =
    last_more _ c.args.found.now.items _ _ _ _ c.add_declarator_items.ensures
    (ap literals.declarators_literals (declarators_listed c.args.ds.now)) refl

pub add_statements-returns : goal.add_statements-returns
add_statements-returns t c =
    last_more _ c.args.found.now.items _ _ _ _ c.add_statement_items.ensures
    (ap literals.statements_literals (statements_listed c.args.ss.now)) refl

pub add_block-returns : goal.add_block-returns
add_block-returns t c =
    last_more _ c.args.found.now.items _ _ _ _ c.add_statements.ensures
    (ap literals.statements_literals (block_of c.args.block.now)) refl

pub add_declarator-returns : goal.add_declarator-returns
add_declarator-returns t c =
    last_more _ c.args.found.now.items _ _ _ _ c.add_optional.ensures
    (ap literals.declarator_literals (declarator_of c.args.d.now)) refl

pub add_optional-returns-in-None : goal.add_optional-returns-in-None
add_optional-returns-in-None t c =
    none_more c.args.found.now.items _ (ap (λ o. literals.optional_literals (optional_view o)) c.in-None.is)

pub add_alternate-returns-in-None : goal.add_alternate-returns-in-None
add_alternate-returns-in-None t c = none_more c.args.found.now.items _ (ap alternate_literals c.in-None.is)

pub add_handler-returns-in-None : goal.add_handler-returns-in-None
add_handler-returns-in-None t c =
    none_more c.args.found.now.items _ (ap (λ o. literals.handler_literals (handler_view o)) c.in-None.is)

pub add_finalizer-returns-in-None : goal.add_finalizer-returns-in-None
add_finalizer-returns-in-None t c =
    none_more c.args.found.now.items _ (ap (λ o. literals.finalizer_literals (finalizer_view o)) c.in-None.is)

pub add_optional-returns-in-Some : goal.add_optional-returns-in-Some
add_optional-returns-in-Some t c =
    last_more _ c.args.found.now.items _ _ _ _ c.add_expression.ensures
    (ap (λ o. literals.optional_literals (optional_view o)) c.in-Some.is) refl

pub add_alternate-returns-in-Some : goal.add_alternate-returns-in-Some
add_alternate-returns-in-Some t c =
    last_more _ c.args.found.now.items _ _ _ _ c.add_statement.ensures (ap alternate_literals c.in-Some.is)
    (ap literals_of c.deref.ensures)

pub add_handler-returns-in-Some : goal.add_handler-returns-in-Some
add_handler-returns-in-Some t c = last_more _ c.args.found.now.items _ _ _ _ c.add_block.ensures
    (ap (λ o. literals.handler_literals (handler_view o)) c.in-Some.is
    ∙ ap literals.handler_literals (catch_of c.in-Some.handler))
    refl

pub add_finalizer-returns-in-Some : goal.add_finalizer-returns-in-Some
add_finalizer-returns-in-Some t c =
    last_more _ c.args.found.now.items _ _ _ _ c.add_block.ensures
    (ap (λ o. literals.finalizer_literals (finalizer_view o)) c.in-Some.is) refl

pub add_item-returns : goal.add_item-returns
add_item-returns t c =
    then_more _ c.args.found.now.items _ _ _ _ _ _ _ c.in_ok-add_declared.ensures c.add_statement.ensures refl refl refl
