use Rattle.cdp_session.proofs.EvaluationLemmas.{keeps-nothing, makes-nothing}
use Rattle.cdp_session.proofs.session.Session.list.Goals as goal

pub returns-in_err-text-clause-made : goal.returns-in_err-text-clause-made
returns-in_err-text-clause-made g c =
    makes-nothing c.from_residual-in_err-text.result _ _ c.from_residual-in_err-text.ensures.1

pub returns-in_err-text-clause-kept : goal.returns-in_err-text-clause-kept
returns-in_err-text-clause-kept g c =
    keeps-nothing c.from_residual-in_err-text.result _ _ c.from_residual-in_err-text.ensures.1
