use Rattle.std.proofs.Common.{arith}
use Rattle.cdp_json.proofs.PieceLemmas.{further, on-written, written-as}
use Rattle.remote_objects.proofs.PreviewTextLemmas.{short-array}
use Rattle.remote_objects.proofs.preview_text.write_shown_array.Goals as goal

pub returns : goal.returns
returns c =
    on-written c.put-2.result c.put-2.ensures.put
    (λ e. written-as (short-array c.args.len (omega (arith, c.ranges.len)))
    (further c.in_ok-put.ensures.put (further c.in_ok-natural.ensures.put e)))
