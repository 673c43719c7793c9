use Rattle.std.proofs.Common.{ap, sym, subst, ◌∙◌}
use Rattle.js_heap.specs.declared.value.Addr.{Addr}
use Rattle.js_semantics.specs.Evaluation.{next_kept}
use Rattle.pure_eval.specs.Holding.{HoldsToo, source_for}
use Rattle.pure_eval.specs.Preparing.{IsPrepared}
use Rattle.pure_eval.specs.Workspaces.{Workspace}
use Rattle.cdp_session.specs.Conditions.{IsReadyText}
use Rattle.cdp_session.proofs.ReadyLemmas.{read-more}
use Rattle.cdp_session.proofs.evaluations.Evaluations.hold.Goals as goal

pub returns-clause-ready : goal.returns-clause-ready
returns-clause-ready g c =
    let p = c.in_ok-prepared.prepared in
    subst (λ at. IsPrepared at c.args.expression.now p)
    (c.next_address.ensures ∙ ap (λ (w : Workspace). next_kept w.scratch) c.in_ok-workspace.ensures.workspace)
    c.in_ok-prepared.ensures.ready

pub returns-clause-read : goal.returns-clause-read
returns-clause-read g c =
    let p = c.in_ok-prepared.prepared in
    subst (λ at. IsReadyText at p)
    (c.next_address.ensures ∙ ap (λ (w : Workspace). next_kept w.scratch) c.in_ok-workspace.ensures.workspace)
    c.in_ok-prepared.ensures.read

pub put_holding-requires : goal.put_holding-requires
put_holding-requires g c =
    let w = c.in_ok-workspace.workspace in
    let p = c.in_ok-prepared.prepared in
    let now = c.in_ok-workspace-2.workspace in
    let too : HoldsToo (source_for c.next_address.result p) w.held now.held = subst
    (λ (at : Addr). HoldsToo (source_for at p) w.held now.held) (sym c.next_address.ensures)
    c.in_ok-workspace-2.ensures.held in
    read-more c.next_address.result p w.held now.held c.in_ok-prepared.ensures.read c.in_ok-workspace.ensures.held too
