use Rattle.std.proofs.Common.{ap, sym, subst, ◌∙◌}
use Rattle.std.proofs.lemmas.Result.{IfOk-weaker}
use Rattle.pure_eval.specs.Workspaces.{opened}
use Rattle.cdp_session.specs.Conditions.{AreRead}
use Rattle.cdp_session.proofs.evaluations.Evaluations.open_holding.Goals as goal

pub returns-clause-opened : goal.returns-clause-opened
returns-clause-opened g c =
    let world = (g.P.Program.standing c.args.situation.now.program.now).world in
    IfOk-weaker c.open_over.result _ _ (λ o is. is ∙ ap (opened world) c.in_ok-workspace.ensures.workspace)
    c.open_over.ensures.opened

pub returns-clause-held : goal.returns-clause-held
returns-clause-held g c =
    IfOk-weaker c.open_over.result _ _ (λ o is. subst AreRead (sym is) c.in_ok-workspace.ensures.held)
    c.open_over.ensures.held
