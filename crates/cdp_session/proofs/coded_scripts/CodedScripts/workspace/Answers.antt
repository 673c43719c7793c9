use Rattle.std.proofs.Common.{ap, sym, subst, ◌∙◌}
use Rattle.std.proofs.lemmas.Result.{IfOk-weaker}
use Rattle.pure_eval.specs.ScriptsCodes.{ScriptsCode}
use Rattle.pure_eval.specs.Workspaces.{begun}
use Rattle.cdp_session.specs.Code.{code_of}
use Rattle.cdp_session.specs.Conditions.{AreRead}
use Rattle.cdp_session.proofs.coded_scripts.CodedScripts.workspace.Goals as goal

pub returns-clause-workspace : goal.returns-clause-workspace
returns-clause-workspace c =
    IfOk-weaker c.start.result _ _
    (λ w is. is
    ∙ ap (λ (x : ScriptsCode). begun x.program) c.deref.ensures
    ∙ ap begun (c.self.invariant ∙ ap code_of c.self.view_is))
    c.start.ensures.workspace

pub returns-clause-held : goal.returns-clause-held
returns-clause-held c = IfOk-weaker c.start.result _ _ (λ w is. subst AreRead (sym is) tt) c.start.ensures.held
