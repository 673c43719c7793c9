use Rattle.std.proofs.Common.{◌≡◌, subst, ◌∙◌, length, Some, None, Err}
use Rattle.js_tree.specs.declared.script.Expression.{Expression}
use Rattle.js_tree.specs.Views.{expression_view}
use Rattle.js_parser.specs.Expressions.{expression_of, UnlessMemory}
use Rattle.js_parser.proofs.ExpressionLemmas.{expression_some, expression_none}
use Rattle.js_parser_numbering.proofs.NumberedLaws.{numbered_same}
use Rattle.cdp_session.specs.Made.{Makes}
use Rattle.cdp_session.specs.Rows.{row_of}
use Rattle.cdp_session.specs.Situations.{seen}
use Rattle.cdp_session.proofs.EvaluationLemmas.{fault-answer, text-answer}
use Rattle.cdp_session.proofs.session.Session.evaluate_text.Goals as goal

pub returns-in-Ok-clause-made : goal.returns-in-Ok-clause-made
returns-in-Ok-clause-made g c =
    let s = seen g.P.Program.standing c.args.situation.now in
    let x = c.args.self.now in
    let ex = c.in-Ok.expression in
    let source = c.args.source.now in
    let tree = subst (λ t. expression_of t ≡ Some (expression_view ex.tree)) c.as_slice.ensures
    (expression_some c.as_slice.result.now (expression_view ex.tree) c.in-Ok.ensures.found) in
    subst (λ y. Makes c.evaluate_expression.result c.evaluate_expression.new.self (row_of y))
    (text-answer s x c.args.scope c.args.receiver c.args.showing.now source ex tree
    (c.in-Ok.ensures.kept ∙ c.as_slice.ensures) (numbered_same ex.tree (length ex.spans) c.in-Ok.ensures.numbered))
    c.evaluate_expression.ensures.made

pub returns-in-Err-clause-made : goal.returns-in-Err-clause-made
returns-in-Err-clause-made g c =
    let s = seen g.P.Program.standing c.args.situation.now in
    let x = c.args.self.now in
    let source = c.args.source.now in
    let f = c.in-Err.fault in
    let none = subst (λ t. UnlessMemory (expression_of t ≡ None) f) c.as_slice.ensures
    (expression_none {A = Expression} c.as_slice.result.now (λ e. expression_view e.tree) (Err f)
    c.in-Err.ensures.only)
    in
    fault-answer s x c.args.scope c.args.receiver c.args.showing.now source f c.refuse_text.result
    c.refuse_text.new.self none c.refuse_text.ensures.memory c.refuse_text.ensures.made
