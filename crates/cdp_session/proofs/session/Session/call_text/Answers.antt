use Rattle.std.proofs.Common.{◌≡◌, subst, ◌∙◌, length, Some, None, Err}
use Rattle.js_tree.specs.declared.script.FunctionCode.{FunctionCode}
use Rattle.js_tree.specs.Views.{expression_view}
use Rattle.js_parser.specs.Expressions.{function_of, UnlessMemory}
use Rattle.js_parser.proofs.ExpressionLemmas.{function_some, function_none}
use Rattle.js_parser_numbering.proofs.NumberedLaws.{numbered_same}
use Rattle.pure_eval.specs.Arguments.{arguments_of}
use Rattle.cdp_session.specs.Made.{Makes}
use Rattle.cdp_session.specs.Rows.{row_of}
use Rattle.cdp_session.specs.Situations.{seen}
use Rattle.cdp_session.proofs.CallLemmas.{fault-called, text-called}
use Rattle.cdp_session.proofs.session.Session.call_text.Goals as goal

pub returns-in-Ok-clause-made : goal.returns-in-Ok-clause-made
returns-in-Ok-clause-made g c =
    let s = seen g.P.Program.standing c.args.situation.now in
    let x = c.args.self.now in
    let f = c.in-Ok.function in
    let source = c.args.source.now in
    let tree = subst (λ t. function_of t ≡ Some (expression_view f.tree)) c.as_slice.ensures
    (function_some c.as_slice.result.now (expression_view f.tree) c.in-Ok.ensures.found) in
    subst (λ y. Makes c.call_code.result c.call_code.new.self (row_of y))
    (text-called s x c.args.receiver (arguments_of c.args.arguments.now) c.args.showing.now source f tree
    (c.in-Ok.ensures.kept ∙ c.as_slice.ensures) (numbered_same f.tree (length f.spans) c.in-Ok.ensures.numbered))
    c.call_code.ensures.made

pub returns-in-Err-clause-made : goal.returns-in-Err-clause-made
returns-in-Err-clause-made g c =
    let s = seen g.P.Program.standing c.args.situation.now in
    let x = c.args.self.now in
    let source = c.args.source.now in
    let f = c.in-Err.fault in
    let none = subst (λ t. UnlessMemory (function_of t ≡ None) f) c.as_slice.ensures
    (function_none {A = FunctionCode} c.as_slice.result.now (λ e. expression_view e.tree) (Err f)
    c.in-Err.ensures.only)
    in
    fault-called s x c.args.receiver (arguments_of c.args.arguments.now)
    c.args.showing.now source f c.refuse_text.result c.refuse_text.new.self none c.refuse_text.ensures.memory
    c.refuse_text.ensures.made
