use Rattle.std.proofs.Common.{◌≡◌, refl, subst, sym, ◌∙◌, Some, None, Err}
use Rattle.js_tree.specs.declared.script.Expression.{Expression}
use Rattle.js_tree.specs.Views.{expression_view}
use Rattle.js_parser.specs.Expressions.{expression_of, UnlessMemory}
use Rattle.js_parser.proofs.ExpressionLemmas.{expression_some, expression_none}
use Rattle.cdp_session.specs.Conditions.{IsParsedTo}
use Rattle.cdp_session.proofs.conditions.expression_of.Goals as goal
use Rattle.js_parser.proofs.NodeTextLemmas.{unless_lacking}

pub new-requires : goal.new-requires
new-requires c =
    let ex = c.in-Ok.expression in
    record {
      tree =
          subst (λ t. expression_of t ≡ Some (expression_view ex.tree)) (sym c.in-Ok.ensures.kept)
          (expression_some c.as_slice.result.now (expression_view ex.tree) c.in-Ok.ensures.found);
      kept = refl;
      numbered = c.in-Ok.ensures.numbered;
    }

pub returns-in-Ok : goal.returns-in-Ok
returns-in-Ok c =
    let ex = c.in-Ok.expression in
    let parsed : IsParsedTo c.args.text.now ex = record {
      tree =
          subst (λ t. expression_of t ≡ Some (expression_view ex.tree)) c.as_slice.ensures
          (expression_some c.as_slice.result.now (expression_view ex.tree) c.in-Ok.ensures.found);
      kept = c.in-Ok.ensures.kept ∙ c.as_slice.ensures;
      numbered = c.in-Ok.ensures.numbered;
    } in
    subst (IsParsedTo c.args.text.now) (sym c.new.ensures) parsed

pub returns-else-lacks_memory : goal.returns-else-lacks_memory
returns-else-lacks_memory c =
    let f = c.in-Err.fault in
    let none = subst (λ t. UnlessMemory (expression_of t ≡ None) f) c.as_slice.ensures
    (expression_none {A = Expression} c.as_slice.result.now (λ e. expression_view e.tree) (Err f)
    c.in-Err.ensures.only)
    in
    unless_lacking (expression_of c.args.text.now ≡ None) f none (sym c.lacks_memory.ensures ∙ c.if-lacks_memory.false)
