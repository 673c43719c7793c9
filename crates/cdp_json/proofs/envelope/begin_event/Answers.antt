use Rattle.cdp_json.proofs.PieceLemmas.{further, on-written}
use Rattle.cdp_json.proofs.envelope.begin_event.Goals as goal

pub returns : goal.returns
returns c =
    on-written c.put-2.result c.put-2.ensures.put
    (λ e. further c.in_ok-put.ensures.put (further c.in_ok-quoted_str.ensures.put e))
