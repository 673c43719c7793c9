use Rattle.cdp_json.proofs.PieceLemmas.{further, on-written}
use Rattle.cdp_session.proofs.result_texts.write_uncaught.Goals as goal

pub returns : goal.returns
returns c =
    on-written c.put-4.result c.put-4.ensures.put
    (λ e. further c.in_ok-put.ensures.put
    (further c.in_ok-put-2.ensures.put
    (further c.in_ok-put-3.ensures.put (further c.in_ok-natural.ensures.put e))))
