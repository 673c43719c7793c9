use Rattle.std.proofs.Common.{◌∙◌}
use Rattle.std.proofs.lemmas.Result.{IfOk-weaker}
use Rattle.cdp_session.specs.Situations.{seen}
use Rattle.cdp_session.proofs.ConditionLemmas.{parsed-as}
use Rattle.cdp_session.proofs.conditions.Condition.holds.Goals as goal

pub returns-clause-holds : goal.returns-clause-holds
returns-clause-holds g c =
    let s = (seen g.P.Program.standing c.args.situation.now).standing in
    let w = c.args.evaluations.now in
    let a = c.self.inside in
    IfOk-weaker c.parsed_holds.result _ _
    (λ is h. h ∙ parsed-as s w a.text c.args.self.now a.expression c.self.invariant c.self.view_is)
    c.parsed_holds.ensures.holds
