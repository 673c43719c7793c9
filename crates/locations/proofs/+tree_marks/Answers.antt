use Rattle.std.proofs.Common.{◌++◌, Option, map, refl, sym, ap, ◌∙◌}
use Rattle.std.specs.Option.{option_map}
use Rattle.std.specs.Global.{Box}
use Rattle.js_tree.specs.declared.tree.Expr.{Expr}
use Rattle.js_tree.specs.declared.tree.Stmt.{Stmt}
use Rattle.js_tree.specs.declared.tree.Declarator.{Declarator}
use Rattle.js_tree.specs.declared.tree.Declarators.{out-Declarators}
use Rattle.js_tree.specs.declared.tree.Catch.{Catch}
use Rattle.js_semantics.specs.Makers.{place_or}
use Rattle.js_semantics.specs.Sources.{expression_source}
use Rattle.js_semantics.specs.declared.form.Mark.{Mark}
use Rattle.js_semantics.specs.declared.form.Mark.TheVariants.{Start as start}
use Rattle.locations.specs.declared.spot.SpotKind.TheVariants as kinds
use Rattle.locations.specs.Marks.{Marks, Marking, at, beginning, together, in_present, where_present, in_returned, expression_marks, property_marks, key_marks, statement_marks, catch_marks, block_marks, declarators_marks}
use Rattle.locations.proofs.TreeLemmas.{marks_array, marks_arrow, marks_arrow_block, marks_assign, marks_binary, marks_block, marks_block_body, marks_boolean, marks_break, marks_call, marks_catch, marks_comma, marks_computed_key, marks_conditional, marks_continue, marks_debugger, marks_declarators, marks_do_while, marks_empty, marks_expression, marks_expressions, marks_for, marks_for_lexical, marks_for_of, marks_function, marks_function_declaration, marks_if, marks_index, marks_lexical, marks_member, marks_method, marks_name, marks_null, marks_number, marks_number_key, marks_object, marks_parenthesized, marks_postfix, marks_prefix, marks_properties, marks_return, marks_shorthand, marks_statements, marks_string, marks_string_key, marks_this, marks_throw, marks_try, marks_unary, marks_value, marks_while, marks_word_key}
use Rattle.locations.proofs.WordLemmas.{node_made, word_made}
use Rattle.locations.proofs.WalkLemmas.{before, last, same, same_last, none, expression_last, part_last, all_over, in_all_together, declarators_together}
use Rattle.locations.proofs.+tree_marks.Goals as goal

pub expressions::expression_marks-returns-in-This : goal.expressions::expression_marks-returns-in-This
expressions::expression_marks-returns-in-This t c = none (λ (x : Marking). x.marks) (expression_marks c.args.e.now) _
    (ap expression_marks c.in-This.is ∙ marks_this c.in-This.node) refl _

pub expressions::expression_marks-returns-in-Name : goal.expressions::expression_marks-returns-in-Name
expressions::expression_marks-returns-in-Name t c = none (λ (x : Marking). x.marks) (expression_marks c.args.e.now) _
    (ap expression_marks c.in-Name.is ∙ marks_name c.in-Name.node c.in-Name.name) refl _

pub expressions::expression_marks-returns-in-Number : goal.expressions::expression_marks-returns-in-Number
expressions::expression_marks-returns-in-Number t c = none (λ (x : Marking). x.marks) (expression_marks c.args.e.now) _
    (ap expression_marks c.in-Number.is ∙ marks_number c.in-Number.node c.in-Number.value) refl _

pub expressions::expression_marks-returns-in-String : goal.expressions::expression_marks-returns-in-String
expressions::expression_marks-returns-in-String t c = none (λ (x : Marking). x.marks) (expression_marks c.args.e.now) _
    (ap expression_marks c.in-String.is ∙ marks_string c.in-String.node c.in-String.value) refl _

pub expressions::expression_marks-returns-in-Boolean : goal.expressions::expression_marks-returns-in-Boolean
expressions::expression_marks-returns-in-Boolean t c = none (λ (x : Marking). x.marks) (expression_marks c.args.e.now) _
    (ap expression_marks c.in-Boolean.is ∙ marks_boolean c.in-Boolean.node c.in-Boolean.value) refl _

pub expressions::expression_marks-returns-in-Null : goal.expressions::expression_marks-returns-in-Null
expressions::expression_marks-returns-in-Null t c = none (λ (x : Marking). x.marks) (expression_marks c.args.e.now) _
    (ap expression_marks c.in-Null.is ∙ marks_null c.in-Null.node) refl _

pub expressions::expression_marks-returns-in-Array : goal.expressions::expression_marks-returns-in-Array
expressions::expression_marks-returns-in-Array t c = expression_last c.args.e.now _ _ _ _
    (ap expression_marks c.in-Array.is ∙ marks_array c.in-Array.node c.in-Array.elements) c.expressions_marks.ensures

pub expressions::expression_marks-returns-in-Object : goal.expressions::expression_marks-returns-in-Object
expressions::expression_marks-returns-in-Object t c = expression_last c.args.e.now _ _ _ _
    (ap expression_marks c.in-Object.is ∙ marks_object c.in-Object.node c.in-Object.properties)
    c.properties_marks.ensures

pub expressions::expression_marks-returns-in-Function : goal.expressions::expression_marks-returns-in-Function
expressions::expression_marks-returns-in-Function t c = expression_last c.args.e.now _ _ _ _
    (ap expression_marks c.in-Function.is
    ∙ marks_function c.in-Function.node c.in-Function.name c.in-Function.parameters c.in-Function.body)
    c.function_marks.ensures

pub expressions::expression_marks-returns-in-Arrow : goal.expressions::expression_marks-returns-in-Arrow
expressions::expression_marks-returns-in-Arrow t c = expression_last c.args.e.now _ _ _ _
    (ap expression_marks c.in-Arrow.is ∙ marks_arrow c.in-Arrow.node c.in-Arrow.parameters c.in-Arrow.body)
    (same_last (λ (a : Expr). in_returned (expression_marks a)) _ _ c.deref.ensures _ _ _ c.returned_marks.ensures)

pub expressions::expression_marks-returns-in-ArrowBlock : goal.expressions::expression_marks-returns-in-ArrowBlock
expressions::expression_marks-returns-in-ArrowBlock t c = expression_last c.args.e.now _ _ _ _
    (ap expression_marks c.in-ArrowBlock.is
    ∙ marks_arrow_block c.in-ArrowBlock.node c.in-ArrowBlock.parameters c.in-ArrowBlock.body)
    c.function_marks-in-ArrowBlock.ensures

pub expressions::expression_marks-returns-in-Parenthesized : goal.expressions::expression_marks-returns-in-Parenthesized
expressions::expression_marks-returns-in-Parenthesized t c = expression_last c.args.e.now _ _ _ _
    (ap expression_marks c.in-Parenthesized.is ∙ marks_parenthesized c.in-Parenthesized.node c.in-Parenthesized.inner)
    (same_last (λ (a : Expr). (expression_marks a).marks)
    _ _ c.deref-in-Parenthesized.ensures _ _ _ c.expression_marks.ensures)

pub expressions::expression_marks-returns-in-Member : goal.expressions::expression_marks-returns-in-Member
expressions::expression_marks-returns-in-Member t c = expression_last c.args.e.now _ _ _ _
    (ap expression_marks c.in-Member.is ∙ marks_member c.in-Member.node c.in-Member.object c.in-Member.name)
    (same_last (λ (a : Expr). (expression_marks a).marks)
    _ _ c.deref-in-Member.ensures _ _ _ c.expression_marks-in-Member.ensures)

pub expressions::expression_marks-returns-in_ok-expression_marks-in-Index :
    goal.expressions::expression_marks-returns-in_ok-expression_marks-in-Index
expressions::expression_marks-returns-in_ok-expression_marks-in-Index t c = expression_last c.args.e.now _ _ _ _
    (ap expression_marks c.in-Index.is ∙ marks_index c.in-Index.node c.in-Index.object c.in-Index.key)
    (last _ _ _ _ _ _
    (same (λ (a : Expr). (expression_marks a).marks)
    _ _ c.deref-in-Index.ensures _ _ c.in_ok-expression_marks-in-Index.ensures)
    (same_last (λ (a : Expr). (expression_marks a).marks)
    _ _ c.deref-in-Index-2.ensures _ _ _ c.expression_marks-in-Index-2.ensures))

pub expressions::expression_marks-returns-in_ok-add-in-Call :
    goal.expressions::expression_marks-returns-in_ok-add-in-Call
expressions::expression_marks-returns-in_ok-add-in-Call t c = expression_last c.args.e.now _ _ _ _
    (ap expression_marks c.in-Call.is
    ∙ marks_call c.in-Call.node c.in-Call.callee c.in-Call.parentheses c.in-Call.arguments)
    (last _ _ _ _ _ _
    (before _ _ _ _ _
    (same (λ (a : Expr). (expression_marks a).marks)
    _ _ c.deref-in-Call.ensures _ _ c.in_ok-expression_marks-in-Call.ensures)
    (same (λ (m : Mark). at kinds.Call m) _ _
    (c.call_place.ensures
    ∙ ap (λ (a : Expr). place_or (expression_source a).last_word c.in-Call.parentheses.0) c.deref-in-Call-2.ensures
    ∙ ap (λ (w : Option Mark). place_or w c.in-Call.parentheses.0) (sym (word_made c.in-Call.callee.value)))
    _ _ c.in_ok-add-in-Call.ensures))
    c.expressions_marks-in-Call.ensures)

pub expressions::returned_marks-returns : goal.expressions::returned_marks-returns
expressions::returned_marks-returns t c = last _ _ _ _ _ _
    (same (λ (m : Mark). at kinds.Return m) _ _ (ap start (c.node_of.ensures ∙ sym (node_made c.args.body.now))) _ _
    c.in_ok-add.ensures)
    c.expression_marks.ensures

pub expressions::expression_marks-returns-in-Postfix : goal.expressions::expression_marks-returns-in-Postfix
expressions::expression_marks-returns-in-Postfix t c = expression_last c.args.e.now _ _ _ _
    (ap expression_marks c.in-Postfix.is ∙ marks_postfix c.in-Postfix.node c.in-Postfix.operator c.in-Postfix.operand)
    (same_last (λ (a : Expr). (expression_marks a).marks)
    _ _ c.deref-in-Postfix.ensures _ _ _ c.expression_marks-in-Postfix.ensures)

pub expressions::expression_marks-returns-in-Prefix : goal.expressions::expression_marks-returns-in-Prefix
expressions::expression_marks-returns-in-Prefix t c = expression_last c.args.e.now _ _ _ _
    (ap expression_marks c.in-Prefix.is ∙ marks_prefix c.in-Prefix.node c.in-Prefix.operator c.in-Prefix.operand)
    (same_last (λ (a : Expr). (expression_marks a).marks)
    _ _ c.deref-in-Prefix.ensures _ _ _ c.expression_marks-in-Prefix.ensures)

pub expressions::expression_marks-returns-in-Unary : goal.expressions::expression_marks-returns-in-Unary
expressions::expression_marks-returns-in-Unary t c = expression_last c.args.e.now _ _ _ _
    (ap expression_marks c.in-Unary.is ∙ marks_unary c.in-Unary.node c.in-Unary.operator c.in-Unary.operand)
    (same_last (λ (a : Expr). (expression_marks a).marks)
    _ _ c.deref-in-Unary.ensures _ _ _ c.expression_marks-in-Unary.ensures)

pub expressions::expression_marks-returns-in_ok-expression_marks-in-Binary :
    goal.expressions::expression_marks-returns-in_ok-expression_marks-in-Binary
expressions::expression_marks-returns-in_ok-expression_marks-in-Binary t c = expression_last c.args.e.now _ _ _ _
    (ap expression_marks c.in-Binary.is
    ∙ marks_binary c.in-Binary.node c.in-Binary.operator c.in-Binary.left c.in-Binary.right)
    (last _ _ _ _ _ _
    (same (λ (a : Expr). (expression_marks a).marks)
    _ _ c.deref-in-Binary.ensures _ _ c.in_ok-expression_marks-in-Binary.ensures)
    (same_last (λ (a : Expr). (expression_marks a).marks)
    _ _ c.deref-in-Binary-2.ensures _ _ _ c.expression_marks-in-Binary-2.ensures))

pub expressions::expression_marks-returns-in_ok-expression_marks-in-Assign :
    goal.expressions::expression_marks-returns-in_ok-expression_marks-in-Assign
expressions::expression_marks-returns-in_ok-expression_marks-in-Assign t c = expression_last c.args.e.now _ _ _ _
    (ap expression_marks c.in-Assign.is
    ∙ marks_assign c.in-Assign.node c.in-Assign.operator c.in-Assign.target c.in-Assign.value)
    (last _ _ _ _ _ _
    (same (λ (a : Expr). (expression_marks a).marks)
    _ _ c.deref-in-Assign.ensures _ _ c.in_ok-expression_marks-in-Assign.ensures)
    (same_last (λ (a : Expr). (expression_marks a).marks)
    _ _ c.deref-in-Assign-2.ensures _ _ _ c.expression_marks-in-Assign-2.ensures))

pub expressions::expression_marks-returns-in_ok-expression_marks-in-Conditional-2 :
    goal.expressions::expression_marks-returns-in_ok-expression_marks-in-Conditional-2
expressions::expression_marks-returns-in_ok-expression_marks-in-Conditional-2 t c = expression_last c.args.e.now _ _ _ _
    (ap expression_marks c.in-Conditional.is
    ∙ marks_conditional c.in-Conditional.node c.in-Conditional.test c.in-Conditional.consequent
    c.in-Conditional.alternate)
    (last _ _ _ _ _ _
    (before _ _ _ _ _
    (same (λ (a : Expr). (expression_marks a).marks)
    _ _ c.deref-in-Conditional.ensures _ _ c.in_ok-expression_marks-in-Conditional.ensures)
    (same (λ (a : Expr). (expression_marks a).marks)
    _ _ c.deref-in-Conditional-2.ensures _ _ c.in_ok-expression_marks-in-Conditional-2.ensures))
    (same_last (λ (a : Expr). (expression_marks a).marks)
    _ _ c.deref-in-Conditional-3.ensures _ _ _ c.expression_marks-in-Conditional-3.ensures))

pub expressions::expression_marks-returns-in-Comma : goal.expressions::expression_marks-returns-in-Comma
expressions::expression_marks-returns-in-Comma t c = expression_last c.args.e.now _ _ _ _
    (ap expression_marks c.in-Comma.is ∙ marks_comma c.in-Comma.node c.in-Comma.expressions)
    c.expressions_marks-in-Comma.ensures

pub expressions::expressions_marks-returns : goal.expressions::expressions_marks-returns
expressions::expressions_marks-returns t c = all_over (λ (e : Expr). (expression_marks e).marks)
    c.deref-item-items.result.now c.loop-item.item-index _ _ c.loop-item-test.false c.loop-item.invariant
    ∙ ap (λ (ms : Marks). c.args.marks.now.items ++ ms)
    (ap (λ xs. together (map (λ (e : Expr). (expression_marks e).marks) xs)) c.deref-item-items.ensures.value
    ∙ sym (in_all_together c.args.es.now.items.items)
    ∙ sym (marks_expressions c.args.es.now))

pub objects::properties_marks-returns : goal.objects::properties_marks-returns
objects::properties_marks-returns t c = all_over property_marks c.deref-item-items.result.now c.loop-item.item-index _ _
    c.loop-item-test.false c.loop-item.invariant
    ∙ ap (λ (ms : Marks). c.args.marks.now.items ++ ms)
    (ap (λ xs. together (map property_marks xs)) c.deref-item-items.ensures.value
    ∙ sym (marks_properties c.args.properties.now))

pub statements::statements_marks-returns : goal.statements::statements_marks-returns
statements::statements_marks-returns t c = all_over statement_marks c.deref-item-items.result.now c.loop-item.item-index
    _ _ c.loop-item-test.false c.loop-item.invariant
    ∙ ap (λ (ms : Marks). c.args.marks.now.items ++ ms)
    (ap (λ xs. together (map statement_marks xs)) c.deref-item-items.ensures.value
    ∙ sym (marks_statements c.args.ss.now))

pub statements::declarators_marks-returns : goal.statements::declarators_marks-returns
statements::declarators_marks-returns t c = all_over
    (λ (d : Declarator). in_present (option_map expression_marks d.initializer))
    c.deref-item-items.result.now c.loop-item.item-index _ _ c.loop-item-test.false c.loop-item.invariant
    ∙ ap (λ (ms : Marks). c.args.marks.now.items ++ ms)
    (ap (λ xs. together (map (λ (d : Declarator). in_present (option_map expression_marks d.initializer)) xs))
    c.deref-item-items.ensures.value
    ∙ declarators_together (out-Declarators c.args.ds.now).items.items
    ∙ sym (marks_declarators c.args.ds.now))

pub objects::key_marks-returns-in-Word : goal.objects::key_marks-returns-in-Word
objects::key_marks-returns-in-Word t c = none (λ (x : Marks). x) (key_marks c.args.key.now) _
    (ap key_marks c.in-Word.is ∙ marks_word_key c.in-Word.field-0) refl _

pub objects::key_marks-returns-in-StringLiteral : goal.objects::key_marks-returns-in-StringLiteral
objects::key_marks-returns-in-StringLiteral t c = none (λ (x : Marks). x) (key_marks c.args.key.now) _
    (ap key_marks c.in-StringLiteral.is ∙ marks_string_key c.in-StringLiteral.field-0) refl _

pub objects::key_marks-returns-in-NumericLiteral : goal.objects::key_marks-returns-in-NumericLiteral
objects::key_marks-returns-in-NumericLiteral t c = none (λ (x : Marks). x) (key_marks c.args.key.now) _
    (ap key_marks c.in-NumericLiteral.is ∙ marks_number_key c.in-NumericLiteral.field-0) refl _

pub objects::key_marks-returns-in-Computed : goal.objects::key_marks-returns-in-Computed
objects::key_marks-returns-in-Computed t c = part_last key_marks c.args.key.now _ _ _ _
    (ap key_marks c.in-Computed.is ∙ marks_computed_key c.in-Computed.key) c.expression_marks.ensures

pub objects::property_marks-returns-in-Shorthand : goal.objects::property_marks-returns-in-Shorthand
objects::property_marks-returns-in-Shorthand t c = none (λ (x : Marks). x) (property_marks c.args.property.now) _
    (ap property_marks c.in-Shorthand.is ∙ marks_shorthand c.in-Shorthand.name) refl _

pub objects::property_marks-returns-in_ok-key_marks-in-Value :
    goal.objects::property_marks-returns-in_ok-key_marks-in-Value
objects::property_marks-returns-in_ok-key_marks-in-Value t c = part_last property_marks c.args.property.now _ _ _ _
    (ap property_marks c.in-Value.is ∙ marks_value c.in-Value.key c.in-Value.value)
    (last _ _ _ _ _ _ c.in_ok-key_marks-in-Value.ensures c.expression_marks.ensures)

pub objects::property_marks-returns-in_ok-key_marks-in-Method :
    goal.objects::property_marks-returns-in_ok-key_marks-in-Method
objects::property_marks-returns-in_ok-key_marks-in-Method t c = part_last property_marks c.args.property.now _ _ _ _
    (ap property_marks c.in-Method.is
    ∙ marks_method c.in-Method.node c.in-Method.key c.in-Method.parameters c.in-Method.body)
    (last _ _ _ _ _ _ c.in_ok-key_marks-in-Method.ensures c.function_marks.ensures)

pub statements::statement_marks-returns-in-Block : goal.statements::statement_marks-returns-in-Block
statements::statement_marks-returns-in-Block t c = part_last statement_marks c.args.s.now _ _ _ _
    (ap statement_marks c.in-Block.is ∙ marks_block c.in-Block.block) c.block_marks.ensures

pub statements::statement_marks-returns-in-Empty : goal.statements::statement_marks-returns-in-Empty
statements::statement_marks-returns-in-Empty t c = none (λ (x : Marks). x) (statement_marks c.args.s.now) _
    (ap statement_marks c.in-Empty.is ∙ marks_empty c.in-Empty.node) refl _

pub statements::statement_marks-returns-in-Continue : goal.statements::statement_marks-returns-in-Continue
statements::statement_marks-returns-in-Continue t c = part_last statement_marks c.args.s.now _ _ _ _
    (ap statement_marks c.in-Continue.is ∙ marks_continue c.in-Continue.node) c.begin-in-Continue.ensures

pub statements::statement_marks-returns-in-Break : goal.statements::statement_marks-returns-in-Break
statements::statement_marks-returns-in-Break t c = part_last statement_marks c.args.s.now _ _ _ _
    (ap statement_marks c.in-Break.is ∙ marks_break c.in-Break.node) c.begin-in-Break.ensures

pub statements::statement_marks-returns-in-Debugger : goal.statements::statement_marks-returns-in-Debugger
statements::statement_marks-returns-in-Debugger t c = part_last statement_marks c.args.s.now _ _ _ _
    (ap statement_marks c.in-Debugger.is ∙ marks_debugger c.in-Debugger.node) c.begin-in-Debugger.ensures

pub statements::statement_marks-returns-in-FunctionDeclaration :
    goal.statements::statement_marks-returns-in-FunctionDeclaration
statements::statement_marks-returns-in-FunctionDeclaration t c = part_last statement_marks c.args.s.now _ _ _ _
    (ap statement_marks c.in-FunctionDeclaration.is
    ∙ marks_function_declaration c.in-FunctionDeclaration.node c.in-FunctionDeclaration.name
    c.in-FunctionDeclaration.parameters c.in-FunctionDeclaration.body)
    c.function_marks.ensures

pub statements::statement_marks-returns-in_ok-begin-in-Lexical :
    goal.statements::statement_marks-returns-in_ok-begin-in-Lexical
statements::statement_marks-returns-in_ok-begin-in-Lexical t c = part_last statement_marks c.args.s.now _ _ _ _
    (ap statement_marks c.in-Lexical.is
    ∙ marks_lexical c.in-Lexical.node c.in-Lexical.constant c.in-Lexical.declarators)
    (last _ _ _ _ _ _ c.in_ok-begin-in-Lexical.ensures c.declarators_marks.ensures)

pub statements::statement_marks-returns-in_ok-begin-in-Expression :
    goal.statements::statement_marks-returns-in_ok-begin-in-Expression
statements::statement_marks-returns-in_ok-begin-in-Expression t c = part_last statement_marks c.args.s.now _ _ _ _
    (ap statement_marks c.in-Expression.is ∙ marks_expression c.in-Expression.node c.in-Expression.expression)
    (last _ _ _ _ _ _ c.in_ok-begin-in-Expression.ensures c.expression_marks.ensures)

pub statements::statement_marks-returns-in_ok-begin-in-Return :
    goal.statements::statement_marks-returns-in_ok-begin-in-Return
statements::statement_marks-returns-in_ok-begin-in-Return t c = part_last statement_marks c.args.s.now _ _ _ _
    (ap statement_marks c.in-Return.is ∙ marks_return c.in-Return.node c.in-Return.value)
    (last _ _ _ _ _ _ c.in_ok-begin-in-Return.ensures c.optional_marks-in-Return.ensures)

pub statements::statement_marks-returns-in_ok-begin-in-Throw :
    goal.statements::statement_marks-returns-in_ok-begin-in-Throw
statements::statement_marks-returns-in_ok-begin-in-Throw t c = part_last statement_marks c.args.s.now _ _ _ _
    (ap statement_marks c.in-Throw.is ∙ marks_throw c.in-Throw.node c.in-Throw.value)
    (last _ _ _ _ _ _ c.in_ok-begin-in-Throw.ensures c.expression_marks-in-Throw.ensures)

pub statements::statement_marks-returns-in_ok-expression_marks-in-While :
    goal.statements::statement_marks-returns-in_ok-expression_marks-in-While
statements::statement_marks-returns-in_ok-expression_marks-in-While t c = part_last statement_marks c.args.s.now _ _ _ _
    (ap statement_marks c.in-While.is ∙ marks_while c.in-While.node c.in-While.test c.in-While.body)
    (last _ _ _ (beginning kinds.Plain c.in-While.node.0 ++ (expression_marks c.in-While.test).marks)
    (statement_marks c.in-While.body.value) _
    (before _ _ _ (beginning kinds.Plain c.in-While.node.0) ((expression_marks c.in-While.test).marks)
    c.in_ok-begin-in-While.ensures c.in_ok-expression_marks-in-While.ensures)
    (same_last (λ (a : Stmt). statement_marks a)
    _ _ c.deref-in-While.ensures _ _ _ c.statement_marks-in-While.ensures))

pub statements::statement_marks-returns-in_ok-expression_marks-in-ForOf :
    goal.statements::statement_marks-returns-in_ok-expression_marks-in-ForOf
statements::statement_marks-returns-in_ok-expression_marks-in-ForOf t c = part_last statement_marks c.args.s.now _ _ _ _
    (ap statement_marks c.in-ForOf.is
    ∙ marks_for_of c.in-ForOf.node c.in-ForOf.constant c.in-ForOf.name c.in-ForOf.list c.in-ForOf.body)
    (last _ _ _ (beginning kinds.Plain c.in-ForOf.node.0 ++ (expression_marks c.in-ForOf.list).marks)
    (statement_marks c.in-ForOf.body.value) _
    (before _ _ _ (beginning kinds.Plain c.in-ForOf.node.0) ((expression_marks c.in-ForOf.list).marks)
    c.in_ok-begin-in-ForOf.ensures c.in_ok-expression_marks-in-ForOf.ensures)
    (same_last (λ (a : Stmt). statement_marks a)
    _ _ c.deref-in-ForOf.ensures _ _ _ c.statement_marks-in-ForOf.ensures))

pub statements::statement_marks-returns-in_ok-statement_marks-in-DoWhile :
    goal.statements::statement_marks-returns-in_ok-statement_marks-in-DoWhile
statements::statement_marks-returns-in_ok-statement_marks-in-DoWhile t c = part_last statement_marks c.args.s.now _ _ _
    _
    (ap statement_marks c.in-DoWhile.is ∙ marks_do_while c.in-DoWhile.node c.in-DoWhile.body c.in-DoWhile.test)
    (last _ _ _ (beginning kinds.Plain c.in-DoWhile.node.0 ++ statement_marks c.in-DoWhile.body.value)
    ((expression_marks c.in-DoWhile.test).marks) _
    (before _ _ _ (beginning kinds.Plain c.in-DoWhile.node.0) (statement_marks c.in-DoWhile.body.value)
    c.in_ok-begin-in-DoWhile.ensures
    (same (λ (a : Stmt). statement_marks a)
    _ _ c.deref-in-DoWhile.ensures _ _ c.in_ok-statement_marks-in-DoWhile.ensures))
    c.expression_marks-in-DoWhile.ensures)

pub statements::statement_marks-returns-in_ok-statement_marks-in-If :
    goal.statements::statement_marks-returns-in_ok-statement_marks-in-If
statements::statement_marks-returns-in_ok-statement_marks-in-If t c = part_last statement_marks c.args.s.now _ _ _ _
    (ap statement_marks c.in-If.is ∙ marks_if c.in-If.node c.in-If.test c.in-If.consequent c.in-If.alternate)
    (last _ _ _
    (beginning kinds.Plain c.in-If.node.0 ++
    (expression_marks c.in-If.test).marks ++ statement_marks c.in-If.consequent.value)
    (where_present (option_map (λ (b : Box Stmt). statement_marks b.value) c.in-If.alternate)) _
    (before _ _ _ (beginning kinds.Plain c.in-If.node.0 ++ (expression_marks c.in-If.test).marks)
    (statement_marks c.in-If.consequent.value)
    (before _ _ _ (beginning kinds.Plain c.in-If.node.0) ((expression_marks c.in-If.test).marks)
    c.in_ok-begin-in-If.ensures c.in_ok-expression_marks-in-If.ensures)
    (same (λ (a : Stmt). statement_marks a) _ _ c.deref.ensures _ _ c.in_ok-statement_marks-in-If.ensures))
    c.alternate_marks.ensures)

pub statements::statement_marks-returns-in_ok-handler_marks-in-Try :
    goal.statements::statement_marks-returns-in_ok-handler_marks-in-Try
statements::statement_marks-returns-in_ok-handler_marks-in-Try t c = part_last statement_marks c.args.s.now _ _ _ _
    (ap statement_marks c.in-Try.is ∙ marks_try c.in-Try.node c.in-Try.block c.in-Try.handler c.in-Try.finalizer)
    (last _ _ _
    (beginning kinds.Plain c.in-Try.node.0 ++ block_marks c.in-Try.block ++ where_present
    (option_map catch_marks c.in-Try.handler))
    (where_present (option_map block_marks c.in-Try.finalizer)) _
    (before _ _ _ (beginning kinds.Plain c.in-Try.node.0 ++ block_marks c.in-Try.block)
    (where_present (option_map catch_marks c.in-Try.handler))
    (before _ _ _ (beginning kinds.Plain c.in-Try.node.0) (block_marks c.in-Try.block)
    c.in_ok-begin-in-Try.ensures c.in_ok-block_marks-in-Try.ensures)
    c.in_ok-handler_marks-in-Try.ensures)
    c.finalizer_marks.ensures)

pub statements::statement_marks-returns-in_ok-optional_marks-in-For-3 :
    goal.statements::statement_marks-returns-in_ok-optional_marks-in-For-3
statements::statement_marks-returns-in_ok-optional_marks-in-For-3 t c = part_last statement_marks c.args.s.now _ _ _ _
    (ap statement_marks c.in-For.is
    ∙ marks_for c.in-For.node c.in-For.initializer c.in-For.test c.in-For.update c.in-For.body)
    (last _ _ _
    (beginning kinds.Plain c.in-For.node.0 ++ in_present (option_map expression_marks c.in-For.initializer)
    ++ in_present (option_map expression_marks c.in-For.test) ++ in_present
    (option_map expression_marks c.in-For.update))
    (statement_marks c.in-For.body.value) _
    (before _ _ _
    (beginning kinds.Plain c.in-For.node.0 ++ in_present (option_map expression_marks c.in-For.initializer)
    ++ in_present (option_map expression_marks c.in-For.test))
    (in_present (option_map expression_marks c.in-For.update))
    (before _ _ _
    (beginning kinds.Plain c.in-For.node.0 ++ in_present (option_map expression_marks c.in-For.initializer))
    (in_present (option_map expression_marks c.in-For.test))
    (before _ _ _ (beginning kinds.Plain c.in-For.node.0)
    (in_present (option_map expression_marks c.in-For.initializer))
    c.in_ok-begin-in-For.ensures c.in_ok-optional_marks-in-For.ensures)
    c.in_ok-optional_marks-in-For-2.ensures)
    c.in_ok-optional_marks-in-For-3.ensures)
    (same_last (λ (a : Stmt). statement_marks a) _ _ c.deref-in-For.ensures _ _ _ c.statement_marks-in-For.ensures))

pub statements::statement_marks-returns-in_ok-optional_marks-in-ForLexical-2 :
    goal.statements::statement_marks-returns-in_ok-optional_marks-in-ForLexical-2
statements::statement_marks-returns-in_ok-optional_marks-in-ForLexical-2 t c = part_last statement_marks c.args.s.now _
    _ _ _
    (ap statement_marks c.in-ForLexical.is
    ∙ marks_for_lexical c.in-ForLexical.node c.in-ForLexical.constant c.in-ForLexical.declarators c.in-ForLexical.test
    c.in-ForLexical.update c.in-ForLexical.body)
    (last _ _ _
    (beginning kinds.Plain c.in-ForLexical.node.0 ++ declarators_marks c.in-ForLexical.declarators ++ in_present
    (option_map expression_marks c.in-ForLexical.test) ++ in_present
    (option_map expression_marks c.in-ForLexical.update))
    (statement_marks c.in-ForLexical.body.value) _
    (before _ _ _
    (beginning kinds.Plain c.in-ForLexical.node.0 ++ declarators_marks c.in-ForLexical.declarators ++ in_present
    (option_map expression_marks c.in-ForLexical.test))
    (in_present (option_map expression_marks c.in-ForLexical.update))
    (before _ _ _
    (beginning kinds.Plain c.in-ForLexical.node.0 ++ declarators_marks c.in-ForLexical.declarators)
    (in_present (option_map expression_marks c.in-ForLexical.test))
    (before _ _ _ (beginning kinds.Plain c.in-ForLexical.node.0)
    (declarators_marks c.in-ForLexical.declarators)
    c.in_ok-begin-in-ForLexical.ensures c.in_ok-declarators_marks-in-ForLexical.ensures)
    c.in_ok-optional_marks-in-ForLexical.ensures)
    c.in_ok-optional_marks-in-ForLexical-2.ensures)
    (same_last (λ (a : Stmt). statement_marks a)
    _ _ c.deref-in-ForLexical.ensures _ _ _ c.statement_marks-in-ForLexical.ensures))

pub statements::block_marks-returns : goal.statements::block_marks-returns
statements::block_marks-returns t c = same_last (λ (x : Marks). x) _ _ (sym (marks_block_body c.args.block.now))
    _ _ _ c.statements_marks.ensures

pub statements::handler_marks-returns-in-Some : goal.statements::handler_marks-returns-in-Some
statements::handler_marks-returns-in-Some t c = same_last (λ (x : Marks). x) _ _
    (sym (marks_catch c.in-Some.handler)
    ∙ ap (λ (o : Option Catch). where_present (option_map catch_marks o)) (sym c.in-Some.is))
    _ _ _ c.block_marks.ensures
