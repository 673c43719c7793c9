use Rattle.std.proofs.Common.{ap, sym, subst, ◌∙◌}
use Rattle.pure_eval.specs.declared.evaluator.Evaluator.{Evaluator}
use Rattle.pure_eval.specs.declared.session_code.SessionCode.{SessionCode}
use Rattle.pure_eval.specs.Held.{marked_names}
use Rattle.pure_eval.specs.Holding.{sources_held}
use Rattle.pure_eval.specs.Working.{IsHeld}
use Rattle.pure_eval.specs.Workspaces.{workspace_of}
use Rattle.pure_eval.proofs.WorkspaceLemmas.{begun-is, names-marked}
use Rattle.pure_eval.proofs.workspace.Workspace.start.Goals as goal

pub invariant_of-result : goal.invariant_of-result
invariant_of-result c =
    let P : SessionCode → Type 0 = λ x. IsHeld x.evaluator x.scripts x.start x.held in
    subst P (sym c.in_ok-code.ensures.ok) (c.begun.ensures.holds c.in_ok-evaluator.ensures.code.code)

pub returns-clause-workspace : goal.returns-clause-workspace
returns-clause-workspace c =
    let h = c.new-scratch.result in
    let e = c.in_ok-evaluator.evaluator in
    ap (λ (x : SessionCode). workspace_of x.evaluator x.scripts h) c.in_ok-code.ensures.ok
    ∙ ap (λ (x : Evaluator). workspace_of x c.begun.result.scripts h) c.begun.ensures.evaluator
    ∙ begun-is e c.begun.result.scripts h c.args.code.now.program c.in_ok-evaluator.ensures.code
    c.begun.ensures.count (c.new-scratch.ensures e.names)

pub returns-clause-names : goal.returns-clause-names
returns-clause-names c =
    ap (λ (x : SessionCode). marked_names x.evaluator x.start) c.in_ok-code.ensures.ok
    ∙ ap (λ (x : Evaluator). marked_names x c.begun.result.start) c.begun.ensures.evaluator
    ∙ names-marked c.args.code.now.names c.in_ok-evaluator.evaluator c.begun.result.start c.begun.ensures.marked
    c.in_ok-evaluator.ensures.names

pub returns-clause-held : goal.returns-clause-held
returns-clause-held c =
    ap (λ (x : SessionCode). sources_held x.evaluator.names x.evaluator.table x.held) c.in_ok-code.ensures.ok
    ∙ ap (sources_held c.begun.result.evaluator.names c.begun.result.evaluator.table) c.begun.ensures.held
