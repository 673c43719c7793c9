use Rattle.std.proofs.Common.{ap, sym, subst, ◌∙◌}
use Rattle.pure_eval.specs.declared.session_code.SessionCode.{SessionCode}
use Rattle.pure_eval.specs.Held.{HeldWorkspace, held_of, marked_names}
use Rattle.pure_eval.specs.Holding.{sources_held}
use Rattle.pure_eval.specs.Working.{IsHeld}
use Rattle.pure_eval.specs.Workspaces.{emptied_workspace}
use Rattle.pure_eval.proofs.WorkspaceLemmas.{emptied-is}
use Rattle.pure_eval.proofs.HoldLemmas.{kept-or-none}
use Rattle.pure_eval.proofs.workspace.Workspace.empty.Goals as goal

pub forget_kept-requires : goal.forget_kept-requires
forget_kept-requires c =
    let P : SessionCode → Type 0 = λ x. IsHeld x.evaluator x.scripts x.start x.held in
    subst P (sym c.deref_mut-code.ensures.value) c.self.invariant

pub invariant_of-self : goal.invariant_of-self
invariant_of-self c = c.forget_kept.ensures.holds

pub returns-clause-workspace : goal.returns-clause-workspace
returns-clause-workspace c =
    let w = c.self.inside in
    let old = c.deref_mut-code.result.now in
    let new = c.forget_kept.new.self in
    emptied-is old.evaluator new.evaluator old.scripts new.scripts w.scratch c.new-scratch.result
    c.forget_kept.ensures.program c.forget_kept.ensures.scripts (c.new-scratch.ensures new.evaluator.names)
    ∙ ap (λ (x : SessionCode). emptied_workspace (held_of x.evaluator x.scripts x.start x.held w.scratch).workspace)
    c.deref_mut-code.ensures.value
    ∙ ap (λ (h : HeldWorkspace). emptied_workspace h.workspace) c.self.view_is

pub returns-clause-names : goal.returns-clause-names
returns-clause-names c =
    c.forget_kept.ensures.names
    ∙ ap (λ (x : SessionCode). marked_names x.evaluator x.start) c.deref_mut-code.ensures.value
    ∙ ap (λ (h : HeldWorkspace). h.names) c.self.view_is

pub returns-clause-held : goal.returns-clause-held
returns-clause-held c =
    kept-or-none c.forget_kept.ensures.held
    (ap (λ (x : SessionCode). sources_held x.evaluator.names x.evaluator.table x.held) c.deref_mut-code.ensures.value
    ∙ ap (λ (h : HeldWorkspace). h.held) c.self.view_is)
