use Rattle.cdp_json.proofs.PieceLemmas.{further, on-written, written-as}
use Rattle.remote_objects.proofs.RemoteTextLemmas.{text-text}
use Rattle.remote_objects.proofs.remote_text.write_text.Goals as goal

pub returns : goal.returns
returns c =
    on-written c.put-2.result c.put-2.ensures.put
    (λ e. written-as (text-text c.args.units.now)
    (further c.in_ok-put.ensures.put (further c.in_ok-quoted.ensures.put e)))
