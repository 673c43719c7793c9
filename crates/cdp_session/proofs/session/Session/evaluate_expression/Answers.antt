use Rattle.std.proofs.Common.{subst, sym, refl, ◌∙◌}
use Rattle.js_semantics.specs.Evaluation.{evaluate_expression as definition}
use Rattle.js_semantics.specs.Sources.{expression_source}
use Rattle.cdp_session.specs.Evaluations.{outcome_of_answer}
use Rattle.cdp_session.specs.Made.{Makes, KeepsIfRefused}
use Rattle.cdp_session.specs.Rows.{row_of}
use Rattle.cdp_session.specs.Sessions.{with_workspace}
use Rattle.cdp_session.specs.Situations.{seen}
use Rattle.cdp_session.proofs.EvaluationLemmas.{evaluated-from, keeps-nothing, kept-answer, made-answer, makes-nothing}
use Rattle.cdp_session.proofs.session.Session.evaluate_expression.Goals as goal

pub returns-clause-made : goal.returns-clause-made
returns-clause-made g c =
    let s = seen g.P.Program.standing c.args.situation.now in
    let x = c.args.self.now in
    let ex = c.args.expression.now in
    let e = expression_source ex.tree in
    let a = definition x.workspace.program s.standing.world x.workspace.scratch c.args.scope c.args.receiver ex in
    let n = c.evaluate-end.new.self.workspace in
    let result = c.answer_evaluation.result in
    let new = c.answer_evaluation.new.self in
    let to = evaluated-from s.standing.world x.workspace c.args.scope c.args.receiver ex c.next_address-at.result
    c.in_ok-prepared.prepared c.evaluate-end.result c.in_ok-opened.opened.workspace n c.in_ok-opened.ensures.opened
    c.next_address-at.ensures c.in_ok-prepared.ensures c.evaluate-end.ensures.answer in
    made-answer s x c.args.showing.now e a c.evaluate-end.result c.in_ok-opened.opened.workspace n result new
    c.in_ok-opened.ensures.opened
    (sym c.is_memory.ensures ∙ c.if-is_memory.false) to
    (λ world from.
    subst (λ u. Makes result new (row_of (outcome_of_answer s (with_workspace n.before u) c.args.showing.now e a)))
    c.in_ok-opened.ensures.rest
    (c.answer_evaluation.ensures.made s e a refl world from))

pub returns-clause-kept : goal.returns-clause-kept
returns-clause-kept g c =
    let s = seen g.P.Program.standing c.args.situation.now in
    let x = c.args.self.now in
    let ex = c.args.expression.now in
    let e = expression_source ex.tree in
    let a = definition x.workspace.program s.standing.world x.workspace.scratch c.args.scope c.args.receiver ex in
    let n = c.evaluate-end.new.self.workspace in
    let to = evaluated-from s.standing.world x.workspace c.args.scope c.args.receiver ex c.next_address-at.result
    c.in_ok-prepared.prepared c.evaluate-end.result c.in_ok-opened.opened.workspace n c.in_ok-opened.ensures.opened
    c.next_address-at.ensures c.in_ok-prepared.ensures c.evaluate-end.ensures.answer in
    kept-answer x s.standing.world e a c.evaluate-end.result c.in_ok-opened.opened.workspace n
    c.answer_evaluation.result
    c.answer_evaluation.new.self c.in_ok-opened.ensures.opened
    (sym c.is_memory.ensures ∙ c.if-is_memory.false) to
    (subst (λ u. KeepsIfRefused c.answer_evaluation.result (with_workspace n.before u) c.answer_evaluation.new.self)
    c.in_ok-opened.ensures.rest c.answer_evaluation.ensures.kept)

pub returns-in_err-prepared-clause-made : goal.returns-in_err-prepared-clause-made
returns-in_err-prepared-clause-made g c =
    makes-nothing c.from_residual-in_err-prepared.result _ _ c.from_residual-in_err-prepared.ensures.1

pub returns-in_err-prepared-clause-kept : goal.returns-in_err-prepared-clause-kept
returns-in_err-prepared-clause-kept g c =
    keeps-nothing c.from_residual-in_err-prepared.result _ _ c.from_residual-in_err-prepared.ensures.1
