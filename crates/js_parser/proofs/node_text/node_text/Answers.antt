use Rattle.std.proofs.Common.{sym, ap, ◌∙◌}
use Rattle.std.proofs.lemmas.Result.{IfOk-weaker}
use Rattle.js_tree.specs.declared.node.Span.{Span}
use Rattle.js_tree.specs.declared.script.Expression.{Expression}
use Rattle.js_tree.specs.Views.{expression_view}
use Rattle.js_tree.specs.Spans.{units_in}
use Rattle.js_parser.proofs.NodeTextLemmas.{text_found, text_refused}
use Rattle.js_parser.proofs.node_text.node_text.Goals as goal

pub returns-in-Ok : goal.returns-in-Ok
returns-in-Ok c =
    let x = c.in-Ok.expression in
    let text = c.args.text.now in
    IfOk-weaker c.from_slice.result _ _ (λ units is.
    is
    ∙ c.units_in.ensures
    ∙ ap (λ (s : Span). units_in s text) c.of.ensures
    ∙ text_found text x.tree x.spans c.args.node.0 c.in-Ok.ensures.found c.in-Ok.ensures.spans c.in-Ok.ensures.numbered)
    c.from_slice.ensures

pub returns-else-lacks_memory : goal.returns-else-lacks_memory
returns-else-lacks_memory c =
    IfOk-weaker c.from_slice-else-lacks_memory.result _ _
    (λ units is. is
    ∙ text_refused {A = Expression} c.args.text.now c.args.node.0 (λ e. expression_view e.tree)
    c.in-Err.fault c.in-Err.ensures.only (sym c.lacks_memory.ensures ∙ c.if-lacks_memory.false))
    c.from_slice-else-lacks_memory.ensures
