use Rattle.std.proofs.Common.{arith}
use Rattle.cdp_json.proofs.PieceLemmas.{further, on-written, written-as}
use Rattle.remote_objects.proofs.RemoteTextLemmas.{array-front}
use Rattle.remote_objects.proofs.remote_text.write_array_front.Goals as goal

pub returns : goal.returns
returns c =
    on-written c.put-2.result c.put-2.ensures.put
    (λ e. written-as (array-front c.args.len (omega (arith, c.ranges.len)))
    (further c.in_ok-put.ensures.put (further c.in_ok-natural.ensures.put e)))
