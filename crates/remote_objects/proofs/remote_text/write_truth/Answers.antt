use Rattle.cdp_json.proofs.PieceLemmas.{further, on-written, written-as}
use Rattle.remote_objects.proofs.RemoteTextLemmas.{truth-text}
use Rattle.remote_objects.proofs.remote_text.write_truth.Goals as goal

pub returns : goal.returns
returns c =
    on-written c.put-2.result c.put-2.ensures.put
    (λ e. written-as (truth-text c.args.truth)
    (further c.in_ok-put.ensures.put (further c.in_ok-boolean.ensures.put e)))
