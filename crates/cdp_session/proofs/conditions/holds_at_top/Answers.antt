use Rattle.std.proofs.Common.{ap, sym, subst, ◌∙◌}
use Rattle.js_semantics.specs.Evaluation.{next_kept}
use Rattle.js_tree.specs.declared.script.Expression.{Expression}
use Rattle.pure_eval.specs.Preparing.{IsPrepared}
use Rattle.pure_eval.specs.Workspaces.{OpenWorkspace, opened}
use Rattle.cdp_session.specs.Conditions.{AreRead, IsReadyText}
use Rattle.cdp_session.specs.Situations.{seen}
use Rattle.cdp_session.proofs.ConditionLemmas.{forgets, holds-at}
use Rattle.cdp_session.proofs.ReadyLemmas.{are-of}
use Rattle.cdp_session.proofs.conditions.holds_at_top.Goals as goal

pub returns-clause-holds : goal.returns-clause-holds
returns-clause-holds g c =
    let s = (seen g.P.Program.standing c.args.situation.now).standing in
    let w = c.args.evaluations.now in
    let o = c.in_ok-opened.opened in
    let p = c.in_ok-prepared.prepared in
    let is = c.in_ok-opened.ensures.opened ∙ ap (opened s.world) c.in_ok-prepared.ensures.kept in
    let place = ap (λ (k : OpenWorkspace). next_kept k.behind.scratch) (sym is) in
    let read = subst (λ at. IsReadyText at p) place c.in_ok-prepared.ensures.read in
    let fits = are-of (next_kept o.workspace.behind.scratch) p o.held read c.in_ok-opened.ensures.held in
    holds-at s w c.top-scope.result c.args.expression.now (next_kept w.scratch) p c.evaluate_held-end.result
    o.workspace c.evaluate_held-end.new.self.workspace c.in_ok-holds.holds is place c.in_ok-prepared.ensures.ready
    (λ e ready. c.evaluate_held-end.ensures.answer e ready fits) c.in_ok-holds.ensures.value c.top-scope.ensures

pub returns-clause-kept : goal.returns-clause-kept
returns-clause-kept g c =
    let s = (seen g.P.Program.standing c.args.situation.now).standing in
    let w = c.args.evaluations.now in
    let t = c.top-scope.result in
    let o = c.in_ok-opened.opened in
    let p = c.in_ok-prepared.prepared in
    let is = c.in_ok-opened.ensures.opened ∙ ap (opened s.world) c.in_ok-prepared.ensures.kept in
    let place = ap (λ (k : OpenWorkspace). next_kept k.behind.scratch) (sym is) in
    let read = subst (λ at. IsReadyText at p) place c.in_ok-prepared.ensures.read in
    let fits = are-of (next_kept o.workspace.behind.scratch) p o.held read c.in_ok-opened.ensures.held in
    c.put_holding.ensures
    ∙ c.forget.ensures.workspace
    ∙ forgets s w t.scope t.this c.args.expression.now (next_kept w.scratch) p c.evaluate_held-end.result
    o.workspace c.evaluate_held-end.new.self.workspace is place c.in_ok-prepared.ensures.ready
    (λ e ready. c.evaluate_held-end.ensures.answer e ready fits) c.in_ok-holds.ensures.memory

pub keep-requires : goal.keep-requires
keep-requires g c =
    let s = (seen g.P.Program.standing c.args.situation.now).standing in
    let p = c.in_ok-prepared.prepared in
    let is = c.in_ok-opened.ensures.opened ∙ ap (opened s.world) c.in_ok-prepared.ensures.kept in
    let place = ap (λ (k : OpenWorkspace). next_kept k.behind.scratch) (sym is) in
    subst (λ (e : Expression). IsPrepared c.next_address-at.result e p) (sym c.in_ok-prepared.ensures.same)
    (subst (λ at. IsPrepared at c.args.expression.now p) (place ∙ sym c.next_address-at.ensures)
    c.in_ok-prepared.ensures.ready)

pub put_holding-requires : goal.put_holding-requires
put_holding-requires g c =
    subst AreRead
    (sym (c.forget.ensures.held ∙ c.evaluate_held-end.ensures.held c.in_ok-holds.ensures.memory))
    c.in_ok-opened.ensures.held
