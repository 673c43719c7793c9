use Rattle.std.proofs.Common.{sym, subst, ◌∙◌}
use Rattle.pure_eval.specs.declared.session_code.SessionCode.{SessionCode}
use Rattle.pure_eval.specs.Working.{Holds, IsHeld, IsHolding}
use Rattle.pure_eval.proofs.WorkspaceLemmas.{dropped-working}
use Rattle.pure_eval.proofs.workspace.Workspace.drop_held.Goals as goal

pub invariant_of-self-2 : goal.invariant_of-self-2
invariant_of-self-2 c =
    let code = c.deref_mut-code.result.now in
    let h = c.in-Some.held in
    let P : SessionCode → Type 0 = λ x. IsHeld x.evaluator x.scripts x.start x.held in
    let holding : IsHolding code.evaluator code.scripts code.start h = subst
    (Holds code.evaluator code.scripts code.start)
    (sym c.take.ensures.value ∙ c.in-Some.is) (subst P (sym c.deref_mut-code.ensures.value) c.self.invariant).holds in
    subst (IsHeld c.cut.new.self code.scripts code.start) (sym c.take.ensures.after)
    (dropped-working code.evaluator c.cut.new.self code.scripts code.start h holding c.cut.ensures.back)
