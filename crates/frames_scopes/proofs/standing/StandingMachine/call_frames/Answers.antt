use Rattle.std.proofs.Common.{◌∙◌}
use Rattle.std.proofs.lemmas.Result.{IfOk-weaker}
use Rattle.frames_scopes.proofs.standing.StandingMachine.call_frames.Goals as goal

pub returns : goal.returns
returns c =
    IfOk-weaker c.lent_frames.result _ _ (λ list same. λ taken. same ∙ c.frames.ensures taken) c.lent_frames.ensures
