use Rattle.std.proofs.Common.{ap, ◌∙◌}
use Rattle.pure_eval.specs.Workspaces.{emptied_workspace}
use Rattle.cdp_session.proofs.evaluations.Evaluations.empty.Goals as goal

pub returns : goal.returns
returns c = c.empty.ensures.workspace c.self.inside.scripts ∙ ap emptied_workspace c.self.view_is
