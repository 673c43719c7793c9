use Rattle.cdp_json.proofs.PieceLemmas.{further, on-written}
use Rattle.remote_objects.proofs.frame_text.write_scope_name.Goals as goal

pub returns : goal.returns
returns c =
    on-written c.put-2.result c.put-2.ensures.put
    (λ e. further c.in_ok-put.ensures.put (further c.in_ok-quoted.ensures.put e))
