use Rattle.std.proofs.Common.{rules, subst, ◌∙◌}
use Rattle.std.proofs.lemmas.Result.{IfOk-weaker}
use Rattle.js_tree.specs.declared.script.Expression.{Expression}
use Rattle.cdp_session.specs.Conditions.{IsParsedTo}
use Rattle.cdp_session.proofs.ReadyLemmas.{ready-text}
use Rattle.cdp_session.proofs.ready.ReadyExpression.prepared.Goals as goal

pub returns-clause-ready : goal.returns-clause-ready
returns-clause-ready g c = search rules

pub returns-clause-read : goal.returns-clause-read
returns-clause-read g c =
    let e = c.args.self.now in
    let parsed : IsParsedTo e.source e = subst (λ (x : Expression). IsParsedTo x.source x)
    (c.self.view_is ∙ c.kept.ensures.same) c.self.invariant.parsed in
    IfOk-weaker c.match-kept.result _ _ (λ p r. ready-text e c.args.at p parsed r) (returns-clause-ready g c)
