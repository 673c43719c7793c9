use Rattle.std.proofs.Common.{arith}
use Rattle.cdp_json.proofs.PieceLemmas.{further, on-written, written-as}
use Rattle.remote_objects.proofs.RemoteTextLemmas.{id-written}
use Rattle.remote_objects.proofs.remote_text.write_handle_id.Goals as goal

pub returns : goal.returns
returns c =
    on-written c.put-3.result c.put-3.ensures.put
    (λ e. written-as
    (id-written c.args.session c.args.number (omega (arith, c.ranges.session)) (omega (arith, c.ranges.number)))
    (further c.in_ok-put.ensures.put (further c.in_ok-natural.ensures.put (further c.in_ok-put-2.ensures.put
    (further c.in_ok-natural-2.ensures.put e)))))
