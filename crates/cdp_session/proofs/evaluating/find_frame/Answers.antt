use Rattle.std.proofs.Common.{sym, ◌∙◌}
use Rattle.std.proofs.lemmas.Result.{IfOk-weaker}
use Rattle.cdp_session.proofs.evaluating.find_frame.Goals as goal

pub returns-in-Some : goal.returns-in-Some
returns-in-Some g c =
    IfOk-weaker c.call_frame.result _ _ (λ found same. same ∙ c.in-Some.ensures _ (sym c.frame_count.ensures))
    c.call_frame.ensures

pub returns-in-None : goal.returns-in-None
returns-in-None g c = c.in-None.ensures _ (sym c.frame_count.ensures)
