use Rattle.std.proofs.Common.{[], ◌∙◌}
use Rattle.std.proofs.lemmas.Result.{IfOk-weaker}
use Rattle.cdp_host.proofs.debuggee.Debuggee.walked.Goals as goal

pub returns : goal.returns
returns c =
    IfOk-weaker c.call_frames.result _ _ (λ frames same. same [] ∙ c.walker.ensures.walk) c.call_frames.ensures
