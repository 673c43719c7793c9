use Rattle.cdp_json.proofs.PieceLemmas.{further, on-written}
use Rattle.remote_objects.proofs.descriptor_text.write_writable.Goals as goal

pub returns : goal.returns
returns c =
    on-written c.put-2.result c.put-2.ensures.put
    (λ e. further c.in_ok-put.ensures.put (further c.in_ok-boolean.ensures.put e))
