use Rattle.std.proofs.Common.{sym, ap, subst, ◌∙◌, arith}
use Rattle.js_machine_terms.specs.Views.{term_view}
use Rattle.js_machine_nodes.specs.Trees.{program_of}
use Rattle.js_heap_memory.specs.Overlays.{next_of, over_world, space_after}
use Rattle.pure_eval.specs.declared.session_code.SessionCode.{SessionCode}
use Rattle.pure_eval.specs.Adding.{kept_tree_at}
use Rattle.pure_eval.specs.Held.{HeldOpenWorkspace, held_open_of, marked_names}
use Rattle.pure_eval.specs.Holding.{code_term, sources_held}
use Rattle.pure_eval.specs.Working.{IsOpen}
use Rattle.pure_eval.specs.Workspaces.{OpenWorkspace, opened_of}
use Rattle.pure_eval.proofs.WorkspaceLemmas.{open-is}
use Rattle.pure_eval.proofs.OpenLemmas.{open-on, evaluates-open, names-on, held-on, chosen-open, Evaluates}
use Rattle.pure_eval.proofs.workspace.OpenWorkspace.evaluate_ready.Goals as goal

pub evaluate_ready-outcome-requires-clause-whole : goal.evaluate_ready-outcome-requires-clause-whole
evaluate_ready-outcome-requires-clause-whole g c =
    let w = c.self.inside in
    let P : SessionCode → Type 0 = λ x. IsOpen x.evaluator x.scripts x.start w.mark w.base.now w.world w.cells w.count
    w.next x.held in
    (subst P (sym c.deref_mut-code.ensures.value) c.self.invariant).working.code.runs.whole

pub evaluate_ready-outcome-requires-clause-held : goal.evaluate_ready-outcome-requires-clause-held
evaluate_ready-outcome-requires-clause-held g c =
    let w = c.self.inside in
    let code = c.deref_mut-code.result.now in
    let P : SessionCode → Type 0 = λ x. IsOpen x.evaluator x.scripts x.start w.mark w.base.now w.world w.cells w.count
    w.next x.held in
    chosen-open code.evaluator code.scripts code.start w.mark w.base.now c.into_scratch-scratch.result w.world w.cells
    w.count w.next code.held c.args.choice c.args.prepared.now.source c.in-Ok.entry
    (subst P (sym c.deref_mut-code.ensures.value) c.self.invariant)
    (λ ts. c.into_scratch-scratch.ensures.space ts
    ∙ ap (λ o. space_after (over_world ts o)) c.replace-world.ensures.value)
    c.in-Ok.ensures

pub invariant_of-self-2 : goal.invariant_of-self-2
invariant_of-self-2 g c =
    let w = c.self.inside in
    let r = c.evaluate_ready-outcome in
    let code = c.deref_mut-code.result.now in
    let P : SessionCode → Type 0 = λ x. IsOpen x.evaluator x.scripts x.start w.mark w.base.now w.world w.cells w.count
    w.next x.held in
    let is_open = subst P (sym c.deref_mut-code.ensures.value) c.self.invariant in
    open-on r.result.end code.evaluator r.new.self code.scripts code.start w.mark w.base.now r.result.scratch w.world
    c.over-2.result w.cells w.count w.next c.next_address-self-inside-2.result code.held
    (program_of code.evaluator.names code.evaluator.table)
    (kept_tree_at (next_of c.into_scratch-scratch.result)
    (code_term code.evaluator.names code.evaluator.table (term_view c.args.prepared.now.term) c.in-Ok.entry))
    (sym c.is_memory.ensures ∙ c.if-is_memory.false) is_open r.ensures.goes_on
    (r.ensures.code is_open.working.code)
    c.over-2.ensures.world c.over-2.ensures.known.0 c.next_address-self-inside-2.ensures

pub returns-clause-answer : goal.returns-clause-answer
returns-clause-answer g c =
    let w = c.self.inside in
    let r = c.evaluate_ready-outcome in
    let code = c.deref_mut-code.result.now in
    let I : SessionCode → Type 0 = λ x. IsOpen x.evaluator x.scripts x.start w.mark w.base.now w.world w.cells w.count
    w.next x.held in
    let is_open = subst I (sym c.deref_mut-code.ensures.value) c.self.invariant in
    let new : OpenWorkspace = opened_of r.new.self code.scripts w.mark w.base.now c.over-2.result w.cells in
    let P : HeldOpenWorkspace
    → Type 0 = λ h. Evaluates r.result.end c.args.work c.args.prepared.now c.args.choice h.held h.workspace new in
    let seen : SessionCode → HeldOpenWorkspace = λ x. held_open_of x.evaluator x.scripts x.start x.held w.mark
    w.base.now w.world w.cells in
    subst P (ap seen c.deref_mut-code.ensures.value ∙ c.self.view_is)
    (evaluates-open r.result.end c.args.prepared.now c.args.work code.evaluator r.new.self code.scripts code.start
    w.mark w.base.now c.into_scratch-scratch.result r.result.scratch w.world c.over-2.result w.cells w.count
    c.number_of.result w.next code.held c.args.choice c.in-Ok.entry
    (sym c.is_memory.ensures ∙ c.if-is_memory.false) is_open r.ensures.goes_on
    (r.ensures.code is_open.working.code) c.goes_on.ensures (grind arith) c.number_of.ensures
    (grind arith)
    (λ ts. c.into_scratch-scratch.ensures.space ts
    ∙ ap (λ o. space_after (over_world ts o)) c.replace-world.ensures.value)
    c.over-2.ensures.world c.in-Ok.ensures r.ensures.answer)

pub returns-clause-names : goal.returns-clause-names
returns-clause-names g c =
    let w = c.self.inside in
    let r = c.evaluate_ready-outcome in
    let code = c.deref_mut-code.result.now in
    let I : SessionCode → Type 0 = λ x. IsOpen x.evaluator x.scripts x.start w.mark w.base.now w.world w.cells w.count
    w.next x.held in
    let is_open = subst I (sym c.deref_mut-code.ensures.value) c.self.invariant in
    λ some. names-on r.result.end code.evaluator r.new.self code.scripts code.start some is_open.working
    r.ensures.goes_on
    ∙ ap (λ (x : SessionCode). marked_names x.evaluator x.start) c.deref_mut-code.ensures.value
    ∙ ap (λ (h : HeldOpenWorkspace). h.names) c.self.view_is

pub returns-clause-held : goal.returns-clause-held
returns-clause-held g c =
    let w = c.self.inside in
    let r = c.evaluate_ready-outcome in
    let code = c.deref_mut-code.result.now in
    let I : SessionCode → Type 0 = λ x. IsOpen x.evaluator x.scripts x.start w.mark w.base.now w.world w.cells w.count
    w.next x.held in
    λ some. held-on r.result.end code.evaluator r.new.self code.scripts code.start w.mark w.base.now w.world w.cells
    w.count w.next code.held some (subst I (sym c.deref_mut-code.ensures.value) c.self.invariant) r.ensures.goes_on
    ∙ ap (λ (x : SessionCode). sources_held x.evaluator.names x.evaluator.table x.held) c.deref_mut-code.ensures.value
    ∙ ap (λ (h : HeldOpenWorkspace). h.held) c.self.view_is

pub invariant_of-self-then-is_memory : goal.invariant_of-self-then-is_memory
invariant_of-self-then-is_memory g c =
    let code = c.give_up.new.self in
    open-is code.evaluator code.scripts code.start c.mark-self-inside.result c.self.inside.base.now c.new-none.result
    c.over.result c.mark-self-inside-then-is_memory.result c.number_of-self-inside.result c.next_address-self-inside.result code.held
    c.give_up.ensures c.mark-self-inside.ensures.marked c.over.ensures.world c.over.ensures.known.0
    c.mark-self-inside-then-is_memory.ensures c.next_address-self-inside.ensures c.number_of-self-inside.ensures
