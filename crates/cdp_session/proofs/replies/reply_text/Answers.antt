use Rattle.std.proofs.Common.{◌++◌, ap, ◌∙◌}
use Rattle.cdp_json.proofs.PieceLemmas.{further}
use Rattle.cdp_session.specs.Made.{answer_text, reply_text}
use Rattle.cdp_session.proofs.replies.reply_text.Goals as goal

pub returns : goal.returns
unfolding reply_text
returns c =
    c.finish.ensures
    ∙ ((further c.in_ok-begin_result.ensures
    (further c.in_ok-write_answer.ensures c.in_ok-end_message.ensures)).is
    ∙ ap (λ s. s ++ reply_text c.args.id (answer_text c.args.answer.now)) c.in_ok-pen.ensures)
