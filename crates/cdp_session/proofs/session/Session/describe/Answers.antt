use Rattle.cdp_session.proofs.EvaluationLemmas.{describes-nothing, keeps-nothing}
use Rattle.cdp_session.proofs.session.Session.describe.Goals as goal

pub returns-in_err-described-clause-described : goal.returns-in_err-described-clause-described
returns-in_err-described-clause-described c =
    describes-nothing c.from_residual.result _ _ _ c.from_residual.ensures.1

pub returns-in_err-described-clause-kept : goal.returns-in_err-described-clause-kept
returns-in_err-described-clause-kept c = keeps-nothing c.from_residual.result _ _ c.from_residual.ensures.1
