use Rattle.std.proofs.Common.{[], slice_get, ap, ◌∙◌}
use Rattle.std.proofs.lemmas.Result.{IfOk-weaker}
use Rattle.cdp_host.proofs.debuggee.Debuggee.walked_at.Goals as goal

pub returns : goal.returns
returns c =
    IfOk-weaker c.call_frame.result _ _
    (λ frame same. same [] ∙ ap (λ fs. slice_get fs c.args.depth) c.walker.ensures.walk) c.call_frame.ensures
