use Rattle.std.proofs.Common.{take, ap, sym, subst, ◌∙◌}
use Rattle.pure_eval.specs.declared.session_code.SessionCode.{SessionCode}
use Rattle.pure_eval.specs.Held.{HeldOpenWorkspace, marked_names}
use Rattle.pure_eval.specs.Holding.{sources_held}
use Rattle.pure_eval.specs.Working.{IsOpen}
use Rattle.pure_eval.specs.Workspaces.{opened_of}
use Rattle.pure_eval.proofs.WorkspaceLemmas.{forgotten-held, forgotten-is, forgotten-working}
use Rattle.pure_eval.proofs.workspace.OpenWorkspace.forget.Goals as goal

pub invariant_of-result : goal.invariant_of-result
invariant_of-result c =
    let w = c.self.inside in
    let code = c.deref_mut-there.result.now in
    let P : SessionCode → Type 0 = λ x. IsOpen x.evaluator x.scripts x.start w.mark w.base.now w.world w.cells w.count
    w.next x.held in
    forgotten-working code.evaluator c.cut.new.self code.scripts code.start w.mark w.base.now w.world w.cells w.count
    w.next code.held (subst P (sym c.deref_mut-there.ensures.value) c.self.invariant) c.cut.ensures.back

pub returns-clause-workspace : goal.returns-clause-workspace
returns-clause-workspace c =
    let w = c.self.inside in
    let code = c.deref_mut-there.result.now in
    let P : SessionCode → Type 0 = λ x. IsOpen x.evaluator x.scripts x.start w.mark w.base.now w.world w.cells w.count
    w.next x.held in
    forgotten-is code.evaluator c.cut.new.self code.scripts code.start w.mark w.base.now
    c.into_scratch-scratch.result c.cut-2.new.self w.world w.cells w.count w.next code.held
    (subst P (sym c.deref_mut-there.ensures.value) c.self.invariant) c.cut.ensures.back c.cut.ensures.names
    c.into_scratch-scratch.ensures.space c.cut-2.ensures.space
    ∙ ap (λ (x : SessionCode). (opened_of x.evaluator x.scripts w.mark w.base.now w.world w.cells).before)
    c.deref_mut-there.ensures.value
    ∙ ap (λ (h : HeldOpenWorkspace). h.workspace.before) c.self.view_is

pub returns-clause-names : goal.returns-clause-names
returns-clause-names c =
    let code = c.deref_mut-there.result.now in
    ap (take code.start.names) c.cut.ensures.names
    ∙ ap (λ (x : SessionCode). marked_names x.evaluator x.start) c.deref_mut-there.ensures.value
    ∙ ap (λ (h : HeldOpenWorkspace). h.names) c.self.view_is

pub returns-clause-held : goal.returns-clause-held
returns-clause-held c =
    let w = c.self.inside in
    let code = c.deref_mut-there.result.now in
    let P : SessionCode → Type 0 = λ x. IsOpen x.evaluator x.scripts x.start w.mark w.base.now w.world w.cells w.count
    w.next x.held in
    forgotten-held code.evaluator c.cut.new.self code.scripts code.start w.mark w.base.now w.world w.cells w.count
    w.next code.held (subst P (sym c.deref_mut-there.ensures.value) c.self.invariant) c.cut.ensures.back
    ∙ ap (λ (x : SessionCode). sources_held x.evaluator.names x.evaluator.table x.held) c.deref_mut-there.ensures.value
    ∙ ap (λ (h : HeldOpenWorkspace). h.held) c.self.view_is
