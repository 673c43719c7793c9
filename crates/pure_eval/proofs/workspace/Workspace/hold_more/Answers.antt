use Rattle.std.proofs.Common.{[], ◌∷◌, ◌++◌, Option, sym, ap, subst, ◌∙◌, arith}
use Rattle.js_semantics.specs.Evaluation.{next_kept}
use Rattle.pure_eval.specs.declared.holding.HeldCodes.{HeldCodes}
use Rattle.pure_eval.specs.declared.session_code.SessionCode.{SessionCode}
use Rattle.pure_eval.specs.Held.{HeldWorkspace, marked_names}
use Rattle.pure_eval.specs.Holding.{source_for, sources_held}
use Rattle.pure_eval.specs.Working.{IsHeld}
use Rattle.pure_eval.specs.Workspaces.{workspace_of}
use Rattle.pure_eval.proofs.EvaluatorLemmas.{next-same}
use Rattle.pure_eval.proofs.WorkspaceLemmas.{more-is, more-held, names-stay}
use Rattle.pure_eval.proofs.workspace.Workspace.hold_more.Goals as goal

pub invariant_of-result : goal.invariant_of-result
invariant_of-result c =
    let code = c.deref_mut-there.result.now in
    let P : SessionCode → Type 0 = λ x. IsHeld x.evaluator x.scripts x.start x.held in
    let held : IsHeld code.evaluator code.scripts code.start c.take-held.result = subst
    (IsHeld code.evaluator code.scripts code.start) (sym c.take-held.ensures.value)
    (subst P (sym c.deref_mut-there.ensures.value) c.self.invariant) in
    more-held code.evaluator c.hold_code.new.evaluator code.scripts code.start c.take-held.result c.in_ok-codes.codes
    (source_for c.next_address-at.result c.args.prepared.now)
    (c.in_ok-codes.ensures code.scripts code.start held)

pub returns-clause-workspace : goal.returns-clause-workspace
returns-clause-workspace c =
    let w = c.self.inside in
    let code = c.deref_mut-there.result.now in
    let P : SessionCode → Type 0 = λ x. IsHeld x.evaluator x.scripts x.start x.held in
    let held : IsHeld code.evaluator code.scripts code.start c.take-held.result = subst
    (IsHeld code.evaluator code.scripts code.start) (sym c.take-held.ensures.value)
    (subst P (sym c.deref_mut-there.ensures.value) c.self.invariant) in
    more-is code.evaluator c.hold_code.new.evaluator code.scripts code.start w.scratch c.take-held.result
    c.in_ok-codes.codes (source_for c.next_address-at.result c.args.prepared.now)
    held.working (c.in_ok-codes.ensures code.scripts code.start held) c.goes_on.ensures
    (grind arith)
    ∙ ap (λ (x : SessionCode). workspace_of x.evaluator x.scripts w.scratch) c.deref_mut-there.ensures.value
    ∙ ap (λ (h : HeldWorkspace). h.workspace) c.self.view_is

pub returns-clause-names : goal.returns-clause-names
returns-clause-names c =
    let code = c.deref_mut-there.result.now in
    let P : SessionCode → Type 0 = λ x. IsHeld x.evaluator x.scripts x.start x.held in
    let held : IsHeld code.evaluator code.scripts code.start c.take-held.result = subst
    (IsHeld code.evaluator code.scripts code.start) (sym c.take-held.ensures.value)
    (subst P (sym c.deref_mut-there.ensures.value) c.self.invariant) in
    let holds = c.in_ok-codes.ensures code.scripts code.start held in
    names-stay code.evaluator c.hold_code.new.evaluator code.scripts code.start held.working holds.again.goes_on
    ∙ ap (λ (x : SessionCode). marked_names x.evaluator x.start) c.deref_mut-there.ensures.value
    ∙ ap (λ (h : HeldWorkspace). h.names) c.self.view_is

pub returns-clause-held : goal.returns-clause-held
returns-clause-held c =
    let w = c.self.inside in
    let code = c.deref_mut-there.result.now in
    let p = c.args.prepared.now in
    let P : SessionCode → Type 0 = λ x. IsHeld x.evaluator x.scripts x.start x.held in
    let held : IsHeld code.evaluator code.scripts code.start c.take-held.result = subst
    (IsHeld code.evaluator code.scripts code.start) (sym c.take-held.ensures.value)
    (subst P (sym c.deref_mut-there.ensures.value) c.self.invariant) in
    (c.in_ok-codes.ensures code.scripts code.start held).sources
    ∙ ap (λ (codes : Option HeldCodes). sources_held code.evaluator.names code.evaluator.table codes
    ++ source_for c.next_address-at.result p ∷ []) c.take-held.ensures.value
    ∙ ap (λ a. sources_held code.evaluator.names code.evaluator.table code.held ++ source_for a p ∷ [])
    (c.next_address-at.ensures ∙ sym (next-same code.evaluator.names w.scratch))
    ∙ ap (λ (x : SessionCode). sources_held x.evaluator.names x.evaluator.table x.held
    ++ source_for (next_kept (workspace_of x.evaluator x.scripts w.scratch).scratch) p ∷ [])
    c.deref_mut-there.ensures.value
    ∙ ap (λ (h : HeldWorkspace). h.held ++ source_for (next_kept h.workspace.scratch) p ∷ []) c.self.view_is
