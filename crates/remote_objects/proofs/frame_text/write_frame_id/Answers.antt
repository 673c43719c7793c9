use Rattle.std.proofs.Common.{arith}
use Rattle.cdp_json.proofs.PieceLemmas.{further, on-written, written-as}
use Rattle.remote_objects.proofs.FrameTextLemmas.{frame-id-written}
use Rattle.remote_objects.proofs.frame_text.write_frame_id.Goals as goal

pub returns : goal.returns
returns c =
    on-written c.put-4.result c.put-4.ensures.put
    (λ e. written-as
    (frame-id-written c.args.session c.args.stop c.args.depth (omega (arith, c.ranges.session))
    (omega (arith, c.ranges.stop)) (omega (arith, c.ranges.depth)))
    (further c.in_ok-put.ensures.put (further c.in_ok-natural.ensures.put (further c.in_ok-put-2.ensures.put
    (further c.in_ok-natural-2.ensures.put (further c.in_ok-put-3.ensures.put
    (further c.in_ok-natural-3.ensures.put e)))))))
