use Rattle.cdp_json.proofs.PieceLemmas.{further, on-written}
use Rattle.remote_objects.proofs.frame_text.write_beginning.Goals as goal

pub returns : goal.returns
returns c =
    on-written c.write_location.result c.write_location.ensures
    (λ e. further c.in_ok-put.ensures.put e)
