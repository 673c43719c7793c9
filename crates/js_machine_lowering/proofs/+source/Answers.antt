use Rattle.std.proofs.Common.{rules, ℕ, List, true, false, None, map, sym, ap, ◌∙◌}
use Rattle.std.specs.Option.{option_map}
use Rattle.std.specs.Global.{Box}
use Rattle.js_tree.specs.declared.tree.Stmt.{Stmt}
use Rattle.js_tree.specs.declared.tree.Expr.{Expr}
use Rattle.js_tree.specs.Views.{parameters_view}
use Rattle.js_heap.specs.Cells.{declared}
use Rattle.js_heap.specs.declared.value.Value.TheVariants as values
use Rattle.js_semantics.specs.Terms as semantics
use Rattle.js_semantics.specs.Makers as makers
use Rattle.js_semantics.specs.Makers.{parameter_names, LoweringContext}
use Rattle.js_semantics.specs.Sources.{expression_source, statements_source, statement_source, block_source, catch_source, declarators_source}
use Rattle.js_semantics.specs.declared.form.Form.TheVariants as forms
use Rattle.js_semantics.specs.declared.form.Mark.{Mark}
use Rattle.js_semantics.specs.declared.form.Reference.TheVariants as references
use Rattle.js_semantics.specs.declared.form.Stage.TheVariants as stages
use Rattle.js_machine_lowering_parts.specs.Sources.{context_of, own_form}
use Rattle.js_semantics.proofs.TreeLemmas.{source_this, source_name, source_number, source_string, source_boolean, source_null, source_array, source_object, source_function, source_arrow, source_arrow_block, source_parenthesized, source_member, source_index, source_call, source_postfix, source_prefix, source_unary, source_binary, source_conditional, source_assign, source_comma}
use Rattle.js_machine_lowering_parts.proofs.SourceLemmas.{function_own}
use Rattle.js_semantics.proofs.TreeLemmas.{source_block, source_lexical, source_empty, source_expression, source_if, source_do_while, source_while, source_for, source_for_lexical, source_for_of, source_continue, source_break, source_return, source_throw, source_try, source_debugger, source_function_declaration}
use Rattle.js_machine_lowering.proofs.SourceSteps.{functions_step, functions_all, made_term, made_tail, item_term, item_tail, item_functions, functions_tail, functions_of, of_part, of_two, of_three, of_four, loop_so, try_so, body_so, plain_so}
use Rattle.js_machine_lowering.proofs.+source.Goals as goal

pub statements::statement_functions-returns-in-Block : goal.statements::statement_functions-returns-in-Block
statements::statement_functions-returns-in-Block t c = item_functions c.args.s.now _ (context_of c.args.place) _
    (ap statement_source c.in-Block.is ∙ source_block c.in-Block.field-0) c.end.ensures

pub statements::statement_functions-returns-in-Lexical : goal.statements::statement_functions-returns-in-Lexical
statements::statement_functions-returns-in-Lexical t c = item_functions c.args.s.now _ (context_of c.args.place) _
    (ap statement_source c.in-Lexical.is
    ∙ source_lexical c.in-Lexical.node c.in-Lexical.constant c.in-Lexical.declarators)
    c.end-in-Lexical.ensures

pub statements::statement_functions-returns-in-Empty : goal.statements::statement_functions-returns-in-Empty
statements::statement_functions-returns-in-Empty t c = item_functions c.args.s.now _ (context_of c.args.place) _
    (ap statement_source c.in-Empty.is ∙ source_empty c.in-Empty.node) c.end-in-Empty.ensures

pub statements::statement_functions-returns-in-Expression : goal.statements::statement_functions-returns-in-Expression
statements::statement_functions-returns-in-Expression t c = item_functions c.args.s.now _ (context_of c.args.place) _
    (ap statement_source c.in-Expression.is ∙ source_expression c.in-Expression.node c.in-Expression.expression)
    c.end-in-Expression.ensures

pub statements::statement_functions-returns-in-If : goal.statements::statement_functions-returns-in-If
statements::statement_functions-returns-in-If t c = item_functions c.args.s.now _ (context_of c.args.place) _
    (ap statement_source c.in-If.is ∙ source_if c.in-If.node c.in-If.test c.in-If.consequent c.in-If.alternate)
    c.end-in-If.ensures

pub statements::statement_functions-returns-in-DoWhile : goal.statements::statement_functions-returns-in-DoWhile
statements::statement_functions-returns-in-DoWhile t c = item_functions c.args.s.now _ (context_of c.args.place) _
    (ap statement_source c.in-DoWhile.is ∙ source_do_while c.in-DoWhile.node c.in-DoWhile.body c.in-DoWhile.test)
    c.end-in-DoWhile.ensures

pub statements::statement_functions-returns-in-While : goal.statements::statement_functions-returns-in-While
statements::statement_functions-returns-in-While t c = item_functions c.args.s.now _ (context_of c.args.place) _
    (ap statement_source c.in-While.is ∙ source_while c.in-While.node c.in-While.test c.in-While.body)
    c.end-in-While.ensures

pub statements::statement_functions-returns-in-For : goal.statements::statement_functions-returns-in-For
statements::statement_functions-returns-in-For t c = item_functions c.args.s.now _ (context_of c.args.place) _
    (ap statement_source c.in-For.is
    ∙ source_for c.in-For.node c.in-For.initializer c.in-For.test c.in-For.update c.in-For.body)
    c.end-in-For.ensures

pub statements::statement_functions-returns-in-ForLexical : goal.statements::statement_functions-returns-in-ForLexical
statements::statement_functions-returns-in-ForLexical t c = item_functions c.args.s.now _ (context_of c.args.place) _
    (ap statement_source c.in-ForLexical.is
    ∙ source_for_lexical c.in-ForLexical.node c.in-ForLexical.constant c.in-ForLexical.declarators c.in-ForLexical.test
    c.in-ForLexical.update c.in-ForLexical.body)
    c.end-in-ForLexical.ensures

pub statements::statement_functions-returns-in-ForOf : goal.statements::statement_functions-returns-in-ForOf
statements::statement_functions-returns-in-ForOf t c = item_functions c.args.s.now _ (context_of c.args.place) _
    (ap statement_source c.in-ForOf.is
    ∙ source_for_of c.in-ForOf.node c.in-ForOf.constant c.in-ForOf.name c.in-ForOf.list c.in-ForOf.body)
    c.end-in-ForOf.ensures

pub statements::statement_functions-returns-in-Continue : goal.statements::statement_functions-returns-in-Continue
statements::statement_functions-returns-in-Continue t c = item_functions c.args.s.now _ (context_of c.args.place) _
    (ap statement_source c.in-Continue.is ∙ source_continue c.in-Continue.node) c.end-in-Continue.ensures

pub statements::statement_functions-returns-in-Break : goal.statements::statement_functions-returns-in-Break
statements::statement_functions-returns-in-Break t c = item_functions c.args.s.now _ (context_of c.args.place) _
    (ap statement_source c.in-Break.is ∙ source_break c.in-Break.node) c.end-in-Break.ensures

pub statements::statement_functions-returns-in-Return : goal.statements::statement_functions-returns-in-Return
statements::statement_functions-returns-in-Return t c = item_functions c.args.s.now _ (context_of c.args.place) _
    (ap statement_source c.in-Return.is ∙ source_return c.in-Return.node c.in-Return.value) c.end-in-Return.ensures

pub statements::statement_functions-returns-in-Throw : goal.statements::statement_functions-returns-in-Throw
statements::statement_functions-returns-in-Throw t c = item_functions c.args.s.now _ (context_of c.args.place) _
    (ap statement_source c.in-Throw.is ∙ source_throw c.in-Throw.node c.in-Throw.value) c.end-in-Throw.ensures

pub statements::statement_functions-returns-in-Try : goal.statements::statement_functions-returns-in-Try
statements::statement_functions-returns-in-Try t c = item_functions c.args.s.now _ (context_of c.args.place) _
    (ap statement_source c.in-Try.is ∙ source_try c.in-Try.node c.in-Try.block c.in-Try.handler c.in-Try.finalizer)
    c.end-in-Try.ensures

pub statements::statement_functions-returns-in-Debugger : goal.statements::statement_functions-returns-in-Debugger
statements::statement_functions-returns-in-Debugger t c = item_functions c.args.s.now _ (context_of c.args.place) _
    (ap statement_source c.in-Debugger.is ∙ source_debugger c.in-Debugger.node) c.end-in-Debugger.ensures

pub statements::statement_functions-returns-in_ok-function-in-FunctionDeclaration :
    goal.statements::statement_functions-returns-in_ok-function-in-FunctionDeclaration
statements::statement_functions-returns-in_ok-function-in-FunctionDeclaration t c = functions_tail c.args.s.now _
    (context_of c.args.place) _
    (ap statement_source c.in-FunctionDeclaration.is
    ∙ source_function_declaration c.in-FunctionDeclaration.node c.in-FunctionDeclaration.name
    c.in-FunctionDeclaration.parameters c.in-FunctionDeclaration.body)
    (functions_of (λ (t : semantics.Term). semantics.one t) _ _
    (c.in_ok-function-in-FunctionDeclaration.ensures
    ∙ ap (λ (n : List ℕ). semantics.part
    (forms.Function
    (makers.method_form c.in-FunctionDeclaration.node.0 n c.in-FunctionDeclaration.parameters
    (statements_source c.in-FunctionDeclaration.body) (context_of c.args.place)))
    semantics.end
    (makers.body_terms (statements_source c.in-FunctionDeclaration.body) (context_of c.args.place)))
    c.as_slice.ensures)
    _ c.one.ensures)

pub statements::statement_term-returns-in-Block : goal.statements::statement_term-returns-in-Block
statements::statement_term-returns-in-Block t c = item_tail c.args.s.now _ (context_of c.args.place) _
    (ap statement_source c.in-Block.is ∙ source_block c.in-Block.block) c.block_term.ensures

pub statements::statement_term-returns-in-Empty : goal.statements::statement_term-returns-in-Empty
statements::statement_term-returns-in-Empty t c = item_term c.args.s.now _ (context_of c.args.place) _
    (ap statement_source c.in-Empty.is ∙ source_empty c.in-Empty.node) c.done.ensures

pub statements::statement_term-returns-in-FunctionDeclaration :
    goal.statements::statement_term-returns-in-FunctionDeclaration
statements::statement_term-returns-in-FunctionDeclaration t c = item_term c.args.s.now _ (context_of c.args.place) _
    (ap statement_source c.in-FunctionDeclaration.is
    ∙ source_function_declaration c.in-FunctionDeclaration.node c.in-FunctionDeclaration.name
    c.in-FunctionDeclaration.parameters c.in-FunctionDeclaration.body)
    c.done-in-FunctionDeclaration.ensures

pub statements::statement_term-returns-in_ok-names-in-Lexical :
    goal.statements::statement_term-returns-in_ok-names-in-Lexical
statements::statement_term-returns-in_ok-names-in-Lexical t c = item_tail c.args.s.now _ (context_of c.args.place) _
    (ap statement_source c.in-Lexical.is
    ∙ source_lexical c.in-Lexical.node c.in-Lexical.constant c.in-Lexical.declarators)
    (of_part (λ (t : semantics.Term). semantics.part (forms.Enter c.in-Lexical.node.0) semantics.end
    (semantics.one (t)))
    _ _ (c.in_ok-names-in-Lexical.ensures
    ∙ ap (λ (y : LoweringContext). makers.declarators_term (declarators_source c.in-Lexical.declarators) y)
    c.within.ensures)
    _ c.entered.ensures)

pub statements::statement_term-returns-in_ok-term-in-Expression :
    goal.statements::statement_term-returns-in_ok-term-in-Expression
statements::statement_term-returns-in_ok-term-in-Expression t c = item_tail c.args.s.now _ (context_of c.args.place) _
    (ap statement_source c.in-Expression.is ∙ source_expression c.in-Expression.node c.in-Expression.expression)
    (of_part (λ (t : semantics.Term). semantics.part (forms.Enter c.in-Expression.node.0) semantics.end
    (semantics.one (t)))
    _ _ (c.in_ok-term-in-Expression.ensures
    ∙ ap (λ (y : LoweringContext). makers.plain (expression_source c.in-Expression.expression) y)
    c.within-in-Expression.ensures)
    _ c.entered-in-Expression.ensures)

pub statements::statement_term-returns-in_ok-alternate-in-If :
    goal.statements::statement_term-returns-in_ok-alternate-in-If
statements::statement_term-returns-in_ok-alternate-in-If t c = item_tail c.args.s.now _ (context_of c.args.place) _
    (ap statement_source c.in-If.is ∙ source_if c.in-If.node c.in-If.test c.in-If.consequent c.in-If.alternate)
    (of_three
    (λ (t u v : semantics.Term). semantics.part (forms.Enter c.in-If.node.0) semantics.end
    (semantics.one (semantics.part forms.Choose (semantics.one t) (semantics.more u (semantics.one v)))))
    _ _ (c.in_ok-test-in-If.ensures
    ∙ ap (λ (y : LoweringContext). makers.plain (expression_source c.in-If.test) y) c.within-inner.ensures)
    _ _ (body_so _ _ c.deref.ensures _ _ c.within-inner.ensures _ c.in_ok-consequent-in-If.ensures) _ _
    (c.in_ok-alternate-in-If.ensures
    ∙ ap (λ (y : LoweringContext). makers.alternate_term
    (option_map (λ (b : Box Stmt). statement_source b.value) c.in-If.alternate) y)
    c.within-inner.ensures)
    _ c.if_term.ensures)

pub statements::statement_term-returns-in_ok-body-in-DoWhile :
    goal.statements::statement_term-returns-in_ok-body-in-DoWhile
statements::statement_term-returns-in_ok-body-in-DoWhile t c = item_tail c.args.s.now _ (context_of c.args.place) _
    (ap statement_source c.in-DoWhile.is ∙ source_do_while c.in-DoWhile.node c.in-DoWhile.body c.in-DoWhile.test)
    (of_two (λ (t b : semantics.Term). semantics.part (forms.Enter c.in-DoWhile.node.0) semantics.end
    (semantics.one
    (semantics.part (forms.Loop stages.Doing None) semantics.end (makers.loop_parts t makers.nothing b))))
    _ _ (c.in_ok-test-in-DoWhile.ensures
    ∙ ap (λ (y : LoweringContext). makers.plain (expression_source c.in-DoWhile.test) y)
    c.within-inner-in-DoWhile.ensures)
    _ _ (body_so _ _ c.deref-in-DoWhile.ensures _ _ c.within-inner-in-DoWhile.ensures _ c.in_ok-body-in-DoWhile.ensures)
    _ c.simple_loop.ensures)

pub statements::statement_term-returns-in_ok-body-in-While : goal.statements::statement_term-returns-in_ok-body-in-While
statements::statement_term-returns-in_ok-body-in-While t c = item_tail c.args.s.now _ (context_of c.args.place) _
    (ap statement_source c.in-While.is ∙ source_while c.in-While.node c.in-While.test c.in-While.body)
    (of_two (λ (t b : semantics.Term). semantics.part (forms.Enter c.in-While.node.0) semantics.end
    (semantics.one
    (semantics.part (forms.Loop stages.First None) semantics.end (makers.loop_parts t makers.nothing b))))
    _ _ (c.in_ok-test-in-While.ensures
    ∙ ap (λ (y : LoweringContext). makers.plain (expression_source c.in-While.test) y) c.within-inner-in-While.ensures)
    _ _ (body_so _ _ c.deref-in-While.ensures _ _ c.within-inner-in-While.ensures _ c.in_ok-body-in-While.ensures)
    _ c.simple_loop-in-While.ensures)

pub statements::statement_term-returns-in_ok-body-in-For : goal.statements::statement_term-returns-in_ok-body-in-For
statements::statement_term-returns-in_ok-body-in-For t c = item_tail c.args.s.now _ (context_of c.args.place) _
    (ap statement_source c.in-For.is
    ∙ source_for c.in-For.node c.in-For.initializer c.in-For.test c.in-For.update c.in-For.body)
    (of_four (λ (f : semantics.Terms) (t u b : semantics.Term). semantics.part (forms.Enter c.in-For.node.0)
    semantics.end (semantics.one (semantics.part (forms.Loop stages.First None) f (makers.loop_parts t u b))))
    _ _ (c.in_ok-first-in-For.ensures
    ∙ ap (λ (y : LoweringContext). makers.optional_terms (option_map expression_source c.in-For.initializer) y)
    c.within-inner-in-For.ensures)
    _ _ (c.in_ok-test-in-For.ensures
    ∙ ap (λ (y : LoweringContext). makers.optional_term (option_map expression_source c.in-For.test) y
    (semantics.done (values.Bool true)))
    c.within-inner-in-For.ensures)
    _ _ (c.in_ok-update-in-For.ensures
    ∙ ap (λ (y : LoweringContext). makers.optional_term (option_map expression_source c.in-For.update) y
    (makers.nothing))
    c.within-inner-in-For.ensures)
    _ _ (body_so _ _ c.deref-in-For.ensures _ _ c.within-inner-in-For.ensures _ c.in_ok-body-in-For.ensures)
    _ c.for_term.ensures)

pub statements::statement_term-returns-in_ok-parts-in-ForLexical :
    goal.statements::statement_term-returns-in_ok-parts-in-ForLexical
statements::statement_term-returns-in_ok-parts-in-ForLexical t c = item_tail c.args.s.now _ (context_of c.args.place) _
    (ap statement_source c.in-ForLexical.is
    ∙ source_for_lexical c.in-ForLexical.node c.in-ForLexical.constant c.in-ForLexical.declarators c.in-ForLexical.test
    c.in-ForLexical.update c.in-ForLexical.body)
    (of_two (λ (f : semantics.Term) (p : semantics.Terms). semantics.part
    (forms.EnterFor c.in-ForLexical.node.0 c.in-ForLexical.constant
    (makers.declarators_names c.in-ForLexical.constant (declarators_source c.in-ForLexical.declarators)))
    semantics.end (semantics.more f p))
    _ _ (c.in_ok-first-in-ForLexical.ensures
    ∙ ap (λ (y : LoweringContext). makers.declarators_term (declarators_source c.in-ForLexical.declarators) y)
    c.within-inner-in-ForLexical.ensures)
    _ _ (c.in_ok-parts-in-ForLexical.ensures
    ∙ loop_so _ _
    (c.in_ok-test-in-ForLexical.ensures
    ∙ ap (λ (y : LoweringContext). makers.optional_term (option_map expression_source c.in-ForLexical.test) y
    (semantics.done (values.Bool true)))
    c.within-inner-in-ForLexical.ensures)
    _ _ (c.in_ok-update-in-ForLexical.ensures
    ∙ ap (λ (y : LoweringContext). makers.optional_term (option_map expression_source c.in-ForLexical.update) y
    (makers.nothing))
    c.within-inner-in-ForLexical.ensures)
    _ _ (body_so _ _ c.deref-in-ForLexical.ensures _ _ c.within-inner-in-ForLexical.ensures _
    c.in_ok-body-in-ForLexical.ensures))
    _ c.for_lexical_term.ensures)

pub statements::statement_term-returns-in_ok-body-in-ForOf : goal.statements::statement_term-returns-in_ok-body-in-ForOf
statements::statement_term-returns-in_ok-body-in-ForOf t c = item_tail c.args.s.now _ (context_of c.args.place) _
    (ap statement_source c.in-ForOf.is
    ∙ source_for_of c.in-ForOf.node c.in-ForOf.constant c.in-ForOf.name c.in-ForOf.list c.in-ForOf.body)
    (of_two (λ (l b : semantics.Term). semantics.part
    (forms.EnterForOf c.in-ForOf.node.0 (declared c.in-ForOf.name c.in-ForOf.constant)) semantics.end
    (semantics.more l (semantics.one b)))
    _ _ (c.in_ok-list-in-ForOf.ensures
    ∙ ap (λ (y : LoweringContext). makers.plain (expression_source c.in-ForOf.list) y) c.within-inner-in-ForOf.ensures)
    _ _ (body_so _ _ c.deref-in-ForOf.ensures _ _ c.within-inner-in-ForOf.ensures _ c.in_ok-body-in-ForOf.ensures)
    _ c.for_of_term.ensures)

pub statements::statement_term-returns-in-Continue : goal.statements::statement_term-returns-in-Continue
statements::statement_term-returns-in-Continue t c = item_tail c.args.s.now _ (context_of c.args.place) _
    (ap statement_source c.in-Continue.is ∙ source_continue c.in-Continue.node) c.plain_statement.ensures

pub statements::statement_term-returns-in-Break : goal.statements::statement_term-returns-in-Break
statements::statement_term-returns-in-Break t c = item_tail c.args.s.now _ (context_of c.args.place) _
    (ap statement_source c.in-Break.is ∙ source_break c.in-Break.node) c.plain_statement-in-Break.ensures

pub statements::statement_term-returns-in_ok-value-in-Return :
    goal.statements::statement_term-returns-in_ok-value-in-Return
statements::statement_term-returns-in_ok-value-in-Return t c = item_tail c.args.s.now _ (context_of c.args.place) _
    (ap statement_source c.in-Return.is ∙ source_return c.in-Return.node c.in-Return.value)
    (of_part (λ (v : semantics.Terms). semantics.part (forms.Enter c.in-Return.node.0) semantics.end
    (semantics.one (semantics.part forms.Return v semantics.end)))
    _ _ (c.in_ok-value-in-Return.ensures
    ∙ ap (λ (y : LoweringContext). makers.optional_terms (option_map expression_source c.in-Return.value) y)
    c.within-in-Return.ensures)
    _ c.return_term.ensures)

pub statements::statement_term-returns-in_ok-value-in-Throw :
    goal.statements::statement_term-returns-in_ok-value-in-Throw
statements::statement_term-returns-in_ok-value-in-Throw t c = item_tail c.args.s.now _ (context_of c.args.place) _
    (ap statement_source c.in-Throw.is ∙ source_throw c.in-Throw.node c.in-Throw.value)
    (of_part (λ (t : semantics.Term). semantics.part (forms.Enter c.in-Throw.node.0) semantics.end
    (semantics.one (semantics.part (forms.Throw c.in-Throw.node.0) (semantics.one t) semantics.end)))
    _ _ (c.in_ok-value-in-Throw.ensures
    ∙ ap (λ (y : LoweringContext). makers.plain (expression_source c.in-Throw.value) y) c.within-in-Throw.ensures)
    _ c.throw_term.ensures)

pub statements::statement_term-returns-in_ok-term-in-Try : goal.statements::statement_term-returns-in_ok-term-in-Try
statements::statement_term-returns-in_ok-term-in-Try t c = item_tail c.args.s.now _ (context_of c.args.place) _
    (ap statement_source c.in-Try.is ∙ source_try c.in-Try.node c.in-Try.block c.in-Try.handler c.in-Try.finalizer)
    (of_part (λ (t : semantics.Term). semantics.part (forms.Enter c.in-Try.node.0) semantics.end (semantics.one (t)))
    _ _ (try_so (option_map block_source c.in-Try.finalizer) (option_map catch_source c.in-Try.handler)
    (block_source c.in-Try.block)
    _ _ c.within-inner-in-Try.ensures _ _ _ c.in_ok-block-in-Try.ensures c.in_ok-caught-in-Try.ensures
    c.in_ok-term-in-Try.ensures)
    _ c.entered-in-Try.ensures)

pub statements::statement_term-returns-in-Debugger : goal.statements::statement_term-returns-in-Debugger
statements::statement_term-returns-in-Debugger t c = item_tail c.args.s.now _ (context_of c.args.place) _
    (ap statement_source c.in-Debugger.is ∙ source_debugger c.in-Debugger.node) c.debugger_term.ensures

pub statements::function_items-loop-item-preserved : goal.statements::function_items-loop-item-preserved
statements::function_items-loop-item-preserved t c = functions_step c.deref-item-items.result.now c.loop-item.item-index
    c.item-item.result
    (context_of c.args.place)
    c.loop-item-test.true c.item-item.is _ _ _ c.in_ok-functions.ensures c.in_ok-statement_functions.ensures
    ∙ c.loop-item.invariant

pub statements::function_items-returns : goal.statements::function_items-returns
statements::function_items-returns t c = functions_all c.deref-item-items.result.now c.loop-item.item-index
    (context_of c.args.place) _ c.loop-item-test.false c.loop-item.invariant
    ∙ ap (λ xs. (makers.items_of (map statement_source xs)).functions (context_of c.args.place))
    c.deref-item-items.ensures.value

pub expressions::expression_term-returns-in-This : goal.expressions::expression_term-returns-in-This
expressions::expression_term-returns-in-This t c = made_tail c.args.e.now _ (context_of c.args.place) _
    (ap expression_source c.in-This.is ∙ source_this c.in-This.node) c.leaf.ensures

pub expressions::expression_term-returns-in-Name : goal.expressions::expression_term-returns-in-Name
expressions::expression_term-returns-in-Name t c = made_tail c.args.e.now _ (context_of c.args.place) _
    (ap expression_source c.in-Name.is ∙ source_name c.in-Name.node c.in-Name.name) c.name_read.ensures

pub expressions::expression_term-returns-in-Number : goal.expressions::expression_term-returns-in-Number
expressions::expression_term-returns-in-Number t c = search (rules, source_number c.in-Number.node c.in-Number.value)

pub expressions::expression_term-returns-in_ok-clone-in-String :
    goal.expressions::expression_term-returns-in_ok-clone-in-String
expressions::expression_term-returns-in_ok-clone-in-String t c = search
    (rules, source_string c.in-String.node c.in-String.value)

pub expressions::expression_term-returns-in-Boolean : goal.expressions::expression_term-returns-in-Boolean
expressions::expression_term-returns-in-Boolean t c = made_term c.args.e.now _ (context_of c.args.place) _
    (ap expression_source c.in-Boolean.is ∙ source_boolean c.in-Boolean.node c.in-Boolean.value)
    c.done-in-Boolean.ensures

pub expressions::expression_term-returns-in-Null : goal.expressions::expression_term-returns-in-Null
expressions::expression_term-returns-in-Null t c = made_term c.args.e.now _ (context_of c.args.place) _
    (ap expression_source c.in-Null.is ∙ source_null c.in-Null.node) c.done-in-Null.ensures

pub expressions::expression_term-returns-in_ok-elements-in-Array :
    goal.expressions::expression_term-returns-in_ok-elements-in-Array
expressions::expression_term-returns-in_ok-elements-in-Array t c = made_tail c.args.e.now _ (context_of c.args.place) _
    (ap expression_source c.in-Array.is ∙ source_array c.in-Array.node c.in-Array.elements)
    (of_part (λ (es : semantics.Terms). semantics.part forms.Array es semantics.end)
    _ _ c.in_ok-elements-in-Array.ensures _ c.array_term.ensures)

pub expressions::expression_term-returns-in-Object : goal.expressions::expression_term-returns-in-Object
expressions::expression_term-returns-in-Object t c = made_tail c.args.e.now _ (context_of c.args.place) _
    (ap expression_source c.in-Object.is ∙ source_object c.in-Object.node c.in-Object.properties) c.object_term.ensures

pub expressions::expression_term-returns-in_ok-later-in-Function :
    goal.expressions::expression_term-returns-in_ok-later-in-Function
expressions::expression_term-returns-in_ok-later-in-Function t c = made_tail c.args.e.now _ (context_of c.args.place) _
    (ap expression_source c.in-Function.is
    ∙ source_function c.in-Function.node c.in-Function.name c.in-Function.parameters c.in-Function.body)
    (of_part (λ (t : semantics.Term). t) _ _
    (sym (function_own c.in-Function.node.0 c.in-Function.name c.in-Function.parameters
    (statements_source c.in-Function.body) (context_of c.args.place)))
    _ (of_part
    (λ (l : semantics.Terms). semantics.part
    (forms.Function
    (own_form c.in-Function.node.0 c.in-Function.name c.in-Function.parameters
    (statements_source c.in-Function.body).names (context_of c.args.place)))
    semantics.end l)
    _ _ c.in_ok-later-in-Function.ensures _ c.function_term.ensures))

pub expressions::expression_term-returns-in_ok-later-in-Arrow :
    goal.expressions::expression_term-returns-in_ok-later-in-Arrow
expressions::expression_term-returns-in_ok-later-in-Arrow t c = search
    (rules, source_arrow c.in-Arrow.node c.in-Arrow.parameters c.in-Arrow.body)

pub expressions::expression_term-returns-in_ok-later-in-ArrowBlock :
    goal.expressions::expression_term-returns-in_ok-later-in-ArrowBlock
expressions::expression_term-returns-in_ok-later-in-ArrowBlock t c = made_tail c.args.e.now _ (context_of c.args.place)
    _ (ap expression_source c.in-ArrowBlock.is
    ∙ source_arrow_block c.in-ArrowBlock.node c.in-ArrowBlock.parameters c.in-ArrowBlock.body)
    (of_part (λ (l : semantics.Terms). semantics.part
    (forms.Function
    (makers.form_of c.in-ArrowBlock.node.0 (context_of c.args.place).source (context_of c.args.place).name
    (parameter_names (parameters_view c.in-ArrowBlock.parameters))
    (statements_source c.in-ArrowBlock.body).names true false))
    semantics.end l)
    _ _ c.in_ok-later-in-ArrowBlock.ensures _ c.block_arrow_term.ensures)

pub expressions::expression_term-returns-in-Parenthesized : goal.expressions::expression_term-returns-in-Parenthesized
expressions::expression_term-returns-in-Parenthesized t c = made_tail c.args.e.now _ (context_of c.args.place) _
    (ap expression_source c.in-Parenthesized.is ∙ source_parenthesized c.in-Parenthesized.node c.in-Parenthesized.inner)
    (of_part (λ (a : Expr). (expression_source a).term (context_of c.args.place))
    _ _ c.deref-in-Parenthesized.ensures _ c.expression_term.ensures)

pub expressions::expression_term-returns-in_ok-object-in-Member :
    goal.expressions::expression_term-returns-in_ok-object-in-Member
expressions::expression_term-returns-in_ok-object-in-Member t c = made_tail c.args.e.now _ (context_of c.args.place) _
    (ap expression_source c.in-Member.is ∙ source_member c.in-Member.node c.in-Member.object c.in-Member.name)
    (of_part (λ (o : semantics.Term). semantics.part (forms.Read (references.Member c.in-Member.name)) (semantics.one o)
    semantics.end)
    _ _ (plain_so _ _ c.deref-in-Member.ensures (context_of c.args.place) _ c.in_ok-object-in-Member.ensures)
    _ c.member_term.ensures)

pub expressions::expression_term-returns-in_ok-key-in-Index :
    goal.expressions::expression_term-returns-in_ok-key-in-Index
expressions::expression_term-returns-in_ok-key-in-Index t c = made_tail c.args.e.now _ (context_of c.args.place) _
    (ap expression_source c.in-Index.is ∙ source_index c.in-Index.node c.in-Index.object c.in-Index.key)
    (of_two (λ (o k : semantics.Term). semantics.part (forms.Read references.Index) (semantics.more o (semantics.one k))
    semantics.end)
    _ _ (plain_so _ _ c.deref-in-Index.ensures (context_of c.args.place) _ c.in_ok-object-in-Index.ensures) _ _
    (plain_so _ _ c.deref-in-Index-2.ensures (context_of c.args.place) _ c.in_ok-key-in-Index.ensures)
    _ c.index_term.ensures)

pub expressions::expression_term-returns-in_ok-arguments-in-Call :
    goal.expressions::expression_term-returns-in_ok-arguments-in-Call
expressions::expression_term-returns-in_ok-arguments-in-Call t c = made_tail c.args.e.now _ (context_of c.args.place) _
    (ap expression_source c.in-Call.is
    ∙ source_call c.in-Call.node c.in-Call.callee c.in-Call.parentheses c.in-Call.arguments)
    (of_three
    (λ (m : Mark) (f : semantics.Term) (a : semantics.Terms). makers.call_term m
    (context_of c.args.place).statement f a)
    _ _ (c.call_place-mark.ensures
    ∙ ap (λ (a : Expr). makers.place_or (expression_source a).last_word c.in-Call.parentheses.0)
    c.deref-in-Call.ensures)
    _ _ (plain_so _ _ c.deref-in-Call-2.ensures (context_of c.args.place) _ c.in_ok-callee-in-Call.ensures)
    _ _ c.in_ok-arguments-in-Call.ensures _ c.call_term.ensures)

pub expressions::expression_term-returns-in_ok-operand-in-Postfix :
    goal.expressions::expression_term-returns-in_ok-operand-in-Postfix
expressions::expression_term-returns-in_ok-operand-in-Postfix t c = made_tail c.args.e.now _ (context_of c.args.place) _
    (ap expression_source c.in-Postfix.is ∙ source_postfix c.in-Postfix.node c.in-Postfix.operator c.in-Postfix.operand)
    (of_part (λ (t : semantics.Term). makers.updated c.in-Postfix.operator false t) _ _
    (plain_so _ _ c.deref-in-Postfix.ensures (context_of c.args.place) _ c.in_ok-operand-in-Postfix.ensures)
    _ c.updated.ensures)

pub expressions::expression_term-returns-in_ok-operand-in-Prefix :
    goal.expressions::expression_term-returns-in_ok-operand-in-Prefix
expressions::expression_term-returns-in_ok-operand-in-Prefix t c = made_tail c.args.e.now _ (context_of c.args.place) _
    (ap expression_source c.in-Prefix.is ∙ source_prefix c.in-Prefix.node c.in-Prefix.operator c.in-Prefix.operand)
    (of_part (λ (t : semantics.Term). makers.updated c.in-Prefix.operator true t) _ _
    (plain_so _ _ c.deref-in-Prefix.ensures (context_of c.args.place) _ c.in_ok-operand-in-Prefix.ensures)
    _ c.updated-in-Prefix.ensures)

pub expressions::expression_term-returns-in_ok-operand-in-Unary :
    goal.expressions::expression_term-returns-in_ok-operand-in-Unary
expressions::expression_term-returns-in_ok-operand-in-Unary t c = made_tail c.args.e.now _ (context_of c.args.place) _
    (ap expression_source c.in-Unary.is ∙ source_unary c.in-Unary.node c.in-Unary.operator c.in-Unary.operand)
    (of_part (λ (t : semantics.Term). makers.unary_term c.in-Unary.operator t) _ _
    (plain_so _ _ c.deref-in-Unary.ensures (context_of c.args.place) _ c.in_ok-operand-in-Unary.ensures)
    _ c.unary_term.ensures)

pub expressions::expression_term-returns-in_ok-right-in-Binary :
    goal.expressions::expression_term-returns-in_ok-right-in-Binary
expressions::expression_term-returns-in_ok-right-in-Binary t c = made_tail c.args.e.now _ (context_of c.args.place) _
    (ap expression_source c.in-Binary.is
    ∙ source_binary c.in-Binary.node c.in-Binary.operator c.in-Binary.left c.in-Binary.right)
    (of_two (λ (l r : semantics.Term). makers.binary_term c.in-Binary.operator l r) _ _
    (plain_so _ _ c.deref-in-Binary.ensures (context_of c.args.place) _ c.in_ok-left-in-Binary.ensures) _ _
    (plain_so _ _ c.deref-in-Binary-2.ensures (context_of c.args.place) _ c.in_ok-right-in-Binary.ensures)
    _ c.binary_term.ensures)

pub expressions::expression_term-returns-in_ok-alternate-in-Conditional :
    goal.expressions::expression_term-returns-in_ok-alternate-in-Conditional
expressions::expression_term-returns-in_ok-alternate-in-Conditional t c = made_tail c.args.e.now _
    (context_of c.args.place) _
    (ap expression_source c.in-Conditional.is
    ∙ source_conditional c.in-Conditional.node c.in-Conditional.test c.in-Conditional.consequent
    c.in-Conditional.alternate)
    (of_three
    (λ (t a b : semantics.Term). semantics.part forms.Choose (semantics.one t) (semantics.more a (semantics.one b)))
    _ _ (plain_so _ _ c.deref-in-Conditional.ensures (context_of c.args.place)
    _ c.in_ok-test-in-Conditional.ensures)
    _ _ (plain_so _ _ c.deref-in-Conditional-2.ensures (context_of c.args.place)
    _ c.in_ok-consequent-in-Conditional.ensures)
    _ _ (plain_so _ _ c.deref-in-Conditional-3.ensures (context_of c.args.place)
    _ c.in_ok-alternate-in-Conditional.ensures)
    _ c.choice.ensures)

pub expressions::expression_term-returns-in_ok-value-in-Assign :
    goal.expressions::expression_term-returns-in_ok-value-in-Assign
expressions::expression_term-returns-in_ok-value-in-Assign t c = made_tail c.args.e.now _ (context_of c.args.place) _
    (ap expression_source c.in-Assign.is
    ∙ source_assign c.in-Assign.node c.in-Assign.operator c.in-Assign.target c.in-Assign.value)
    (of_two (λ (t v : semantics.Term). makers.assignment (makers.operator_of c.in-Assign.operator) t v) _ _
    (plain_so _ _ c.deref-in-Assign.ensures (context_of c.args.place) _ c.in_ok-target-in-Assign.ensures) _ _
    (plain_so _ _ c.deref-in-Assign-2.ensures (context_of c.args.place) _ c.in_ok-value-in-Assign.ensures)
    _ c.assignment.ensures)

pub expressions::expression_term-returns-in_ok-expressions-in-Comma :
    goal.expressions::expression_term-returns-in_ok-expressions-in-Comma
expressions::expression_term-returns-in_ok-expressions-in-Comma t c = made_tail c.args.e.now _ (context_of c.args.place)
    _ (ap expression_source c.in-Comma.is ∙ source_comma c.in-Comma.node c.in-Comma.expressions)
    (of_part (λ (ts : semantics.Terms). makers.comma_term ts)
    _ _ c.in_ok-expressions-in-Comma.ensures _ c.comma_term.ensures)
