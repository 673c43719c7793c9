use Rattle.std.proofs.Common.{ap, ◌∙◌}
use Rattle.std.proofs.lemmas.Result.{IfOk-weaker}
use Rattle.pure_eval.specs.Workspaces.{opened}
use Rattle.cdp_session.proofs.evaluations.Evaluations.open.Goals as goal

pub returns-clause-opened : goal.returns-clause-opened
returns-clause-opened g c =
    let world = (g.P.Program.standing c.args.situation.now.program.now).world in
    IfOk-weaker c.open_over.result _ _
    (λ o is. is ∙ ap (opened world) (c.drop_held.ensures.workspace ∙ c.in_ok-workspace.ensures.workspace))
    c.open_over.ensures.opened
