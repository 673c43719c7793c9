use Rattle.std.proofs.Common.{List, ℕ, sym, ap, subst, ◌∙◌}
use Rattle.js_heap_memory.specs.Heaps.{heap_world}
use Rattle.pure_eval.specs.declared.session_code.SessionCode.{SessionCode}
use Rattle.pure_eval.specs.Held.{HeldWorkspace}
use Rattle.pure_eval.specs.Returning.{IsMarked}
use Rattle.pure_eval.specs.Working.{IsKnown}
use Rattle.pure_eval.specs.Workspaces.{opened}
use Rattle.pure_eval.proofs.KnownLemmas.{known-all}
use Rattle.pure_eval.proofs.WorkspaceLemmas.{opened-is, open-is}
use Rattle.pure_eval.proofs.workspace.Workspace.open.Goals as goal

pub invariant_of-result : goal.invariant_of-result
invariant_of-result c =
    let w = c.self.inside in
    let code = w.code.value in
    let P : SessionCode → Type 0 = λ x. IsMarked x.evaluator c.mark-mark.result in
    open-is code.evaluator code.scripts code.start c.mark-mark.result c.args.base.now w.scratch c.over-world.result
    c.mark-cells.result c.number_of-count.result c.next_address-next.result code.held c.self.invariant
    (subst P c.deref-there.ensures c.mark-mark.ensures.marked) c.over-world.ensures.world c.over-world.ensures.known.0 c.mark-cells.ensures
    c.next_address-next.ensures c.number_of-count.ensures

pub returns-clause-opened : goal.returns-clause-opened
returns-clause-opened c = λ names known.
    let w = c.self.inside in
    let code = w.code.value in
    let P : List (List ℕ) → Type 0 = λ ns. IsKnown c.args.base.now names ns in
    let M : SessionCode → Type 0 = λ x. IsMarked x.evaluator c.mark-mark.result in
    opened-is code.evaluator code.scripts c.mark-mark.result c.args.base.now w.scratch c.over-world.result c.mark-cells.result
    names (subst M c.deref-there.ensures c.mark-mark.ensures.marked)
    (known-all c.args.base.now names code.evaluator.names code.start.names
    (subst P (sym (ap (λ (h : HeldWorkspace). h.names) c.self.view_is)) known))
    c.goes_on.ensures c.over-world.ensures.world c.mark-cells.ensures
    ∙ ap (λ (h : HeldWorkspace). opened (heap_world names c.args.base.now) h.workspace) c.self.view_is

pub returns-clause-names : goal.returns-clause-names
returns-clause-names c = ap (λ (h : HeldWorkspace). h.names) c.self.view_is

pub returns-clause-held : goal.returns-clause-held
returns-clause-held c = ap (λ (h : HeldWorkspace). h.held) c.self.view_is
