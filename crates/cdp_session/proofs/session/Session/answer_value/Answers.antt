use Rattle.std.proofs.Common.{string_bytes, ap, ◌∙◌}
use Rattle.cdp_session_messages.specs.Exceptions.{value_result}
use Rattle.cdp_session.specs.Evaluations.{as_it_is, described_in, left_by}
use Rattle.cdp_session.specs.ResultTexts.{value_text}
use Rattle.cdp_session.proofs.ResultTextLemmas.{text-answered, value-spelt}
use Rattle.cdp_session.proofs.session.Session.answer_value.Goals as goal

pub returns-clause-made : goal.returns-clause-made
returns-clause-made c =
    let x = c.args.self.now in
    let o = c.args.opened.workspace in
    let how = c.args.showing.now in
    let v = c.args.value in
    text-answered value_result value_text as_it_is (left_by o how v x) c.describe.new.self
    (described_in c.args.scripts.now o how v x)
    (string_bytes c.in_ok-described.described) c.answering_text.result value-spelt
    c.in_ok-described.ensures.described.0 c.in_ok-described.ensures.described.1 c.answering_text.ensures.before
    (c.answering_text.ensures.answer ∙ (c.in_ok-answer.ensures ∙ ap value_text c.as_str.ensures.value))
    c.answering_text.ensures.event c.answering_text.ensures.asks
