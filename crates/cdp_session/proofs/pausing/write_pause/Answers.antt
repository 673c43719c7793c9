use Rattle.std.proofs.Common.{◌≡◌, map, ap, ◌∙◌}
use Rattle.frames_scopes_types.specs.Views.{frame_of}
use Rattle.cdp_json.proofs.PieceLemmas.{further, on-written, written-as}
use Rattle.remote_objects.specs.CallFrames.{frames_made}
use Rattle.cdp_session.specs.Pauses.{data_made, described_by}
use Rattle.cdp_session.specs.PauseTexts.{data_text}
use Rattle.cdp_session.proofs.PauseTextLemmas.{pause-written}
use Rattle.cdp_session.proofs.pausing.write_pause.Goals as goal

pub returns : goal.returns
returns c =
    let sight = described_by c.args.describer.now in
    let value = c.args.value in
    let frames = frames_made sight c.args.number (map frame_of c.args.frames.now) c.args.handles.now in
    let kept : c.write_frames.new.handles ≡ frames.handles = c.in_ok-write_frames.ensures.handles in
    record {
      made =
          on-written c.put-4.result c.put-4.ensures.put
          (λ e. written-as
          (pause-written sight value frames.handles frames.made c.args.hits.now c.args.cause)
          (further c.in_ok-put.ensures.put
          (further c.in_ok-write_frames.ensures.text
          (further c.in_ok-put-2.ensures.put
          (further (written-as (ap (λ h. data_text (data_made sight value h).made) kept)
          c.in_ok-write_data.ensures.made)
          (further c.in_ok-put-3.ensures.put
          (further c.in_ok-write_hits.ensures (written-as c.reason_back.ensures e))))))));
      held =
          on-written c.put-4.result c.put-4.ensures.put
          (λ e. c.in_ok-write_data.ensures.held ∙ ap (λ h. (data_made sight value h).handles) kept);
    }
