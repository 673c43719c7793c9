use Rattle.std.proofs.Common.{◌∙◌}
use Rattle.std.proofs.lemmas.Result.{IfOk-weaker}
use Rattle.frames_scopes.proofs.standing.StandingMachine.call_frame.Goals as goal

pub returns : goal.returns
returns c =
    IfOk-weaker c.lent_option.result _ _ (λ frame same. λ taken. same ∙ c.frame.ensures taken) c.lent_option.ensures
