use Rattle.std.proofs.Common.{Ok, string_bytes, sym, subst, ap, ◌∙◌}
use Rattle.cdp_session_messages.specs.Exceptions.{thrown_result}
use Rattle.cdp_session.specs.Evaluations.{answered_by, described_in, left_by}
use Rattle.cdp_session.specs.Made.{Makes}
use Rattle.cdp_session.specs.ResultTexts.{thrown_text}
use Rattle.cdp_session.specs.Rows.{row_of}
use Rattle.cdp_session.specs.Sessions.{with_exception}
use Rattle.cdp_session.proofs.ResultTextLemmas.{text-answered, thrown-spelt}
use Rattle.cdp_session.proofs.session.Session.answer_throw.Goals as goal

pub returns-clause-made : goal.returns-clause-made
returns-clause-made c =
    let x = c.args.self.now in
    let o = c.args.opened.workspace in
    let how = c.args.showing.now in
    let v = c.args.value in
    let behind = left_by o how v x in
    let made = described_in c.args.scripts.now o how v x in
    let id = (with_exception x).exceptions in
    let same = c.in_ok-described.ensures.described.1 in
    let number = c.count_exception-id.ensures.number ∙ ap (λ y. (with_exception y).exceptions) same in
    let row = row_of (answered_by (thrown_result id) with_exception behind made) in
    subst (λ y. Makes (Ok c.answering_text.result) y row)
    (sym c.count_exception-id.ensures.counted)
    (text-answered (thrown_result id) (thrown_text id) with_exception behind c.describe.new.self made
    (string_bytes c.in_ok-described.described) c.answering_text.result (thrown-spelt id)
    c.in_ok-described.ensures.described.0 same c.answering_text.ensures.before
    (c.answering_text.ensures.answer
    ∙ (c.in_ok-answer.ensures
    ∙ (ap (λ n. thrown_text n c.as_str.result.now) number ∙ ap (thrown_text id) c.as_str.ensures.value)))
    c.answering_text.ensures.event c.answering_text.ensures.asks)
