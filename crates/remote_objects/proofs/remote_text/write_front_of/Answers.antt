use Rattle.cdp_json.proofs.PieceLemmas.{further, on-written, written-as}
use Rattle.remote_objects.proofs.RemoteTextLemmas.{front-written}
use Rattle.remote_objects.proofs.remote_text.write_front_of.Goals as goal

pub returns : goal.returns
returns c =
    on-written c.quoted-2.result c.quoted-2.ensures.put
    (λ e. written-as (front-written c.args.class.now c.args.shown.now)
    (further c.in_ok-put.ensures.put (further c.in_ok-quoted.ensures.put (further c.in_ok-put-2.ensures.put e))))
