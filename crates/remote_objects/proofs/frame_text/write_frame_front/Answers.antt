use Rattle.cdp_json.proofs.PieceLemmas.{further, on-written, written-as}
use Rattle.frames_scopes_types.specs.Views.{frame_of}
use Rattle.remote_objects.proofs.FrameTextLemmas.{frame-front-written}
use Rattle.remote_objects.proofs.frame_text.write_frame_front.Goals as goal

pub returns : goal.returns
returns c =
    on-written c.write_location.result c.write_location.ensures
    (λ e. written-as
    (frame-front-written c.args.session c.args.stop c.args.depth (frame_of c.args.frame.now))
    (further c.in_ok-put.ensures.put (further c.in_ok-write_frame_id.ensures
    (further c.in_ok-write_function_place.ensures (further c.in_ok-put-2.ensures.put
    (further c.in_ok-quoted.ensures.put (further c.in_ok-put-3.ensures.put e)))))))
