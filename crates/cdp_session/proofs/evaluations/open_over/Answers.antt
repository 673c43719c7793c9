use Rattle.std.proofs.Common.{refl, ap, ◌∙◌}
use Rattle.pure_eval.specs.Workspaces.{opened}
use Rattle.cdp_session.proofs.evaluations.open_over.Goals as goal

pub returns-clause-opened : goal.returns-clause-opened
returns-clause-opened g c =
    let cells = c.cells-cells.result in
    c.open.ensures.opened cells.names.now (c.if-not-has_names_of.ensures.known refl)
    ∙ ap (λ w. opened w c.args.workspace.workspace) c.cells-cells.ensures
