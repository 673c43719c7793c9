use Rattle.cdp_json.proofs.PieceLemmas.{further, on-written}
use Rattle.remote_objects.proofs.descriptor_text.write_flags.Goals as goal

pub returns : goal.returns
returns c =
    on-written c.put-3.result c.put-3.ensures.put
    (λ e. further c.in_ok-put.ensures.put (further c.in_ok-boolean.ensures.put
    (further c.in_ok-put-2.ensures.put (further c.in_ok-boolean-2.ensures.put e))))
