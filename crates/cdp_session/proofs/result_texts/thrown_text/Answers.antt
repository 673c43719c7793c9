use Rattle.cdp_json.proofs.PieceLemmas.{further}
use Rattle.cdp_session.proofs.ResultTextLemmas.{from-nothing}
use Rattle.cdp_session.proofs.result_texts.thrown_text.Goals as goal

pub returns : goal.returns
returns c =
    from-nothing c.in_ok-pen.ensures
    (further c.in_ok-put.ensures.put
    (further c.in_ok-write_uncaught.ensures
    (further c.in_ok-put-2.ensures.put (further c.in_ok-put-3.ensures.put c.in_ok-put-4.ensures.put))))
    c.finish.ensures
