use Rattle.std.proofs.Common.{map, refl, ap, ◌∙◌}
use Rattle.frames_scopes_types.specs.Views.{frame_of}
use Rattle.cdp_json.specs.Compact.{compact_text}
use Rattle.cdp_json.proofs.PieceLemmas.{written-as}
use Rattle.cdp_session.specs.Pauses.{described_by, sight_for, value_told}
use Rattle.cdp_session.specs.PauseTexts.{pause_params}
use Rattle.cdp_session.specs.Situations.{seen}
use Rattle.cdp_session.proofs.PauseTextLemmas.{event-told, params-as}
use Rattle.cdp_session.proofs.pausing.pause_text.Goals as goal

pub returns : goal.returns
returns g c =
    let s = seen g.P.Program.standing c.args.situation.now in
    let sight = sight_for s c.args.session in
    let cause = c.args.cause in
    let value = value_told cause s.standing.thrown in
    let hits = c.args.hits.now in
    let h = c.args.handles.now in
    let same = params-as (described_by c.describer-describer.result) sight c.args.number
    (map frame_of c.as_slice.result.now) s.standing.frames c.value_told-value.result value hits hits cause h
    c.describer-describer.ensures (ap (map frame_of) c.as_slice.ensures.value ∙ c.in_ok-frames.ensures)
    (c.value_told-value.ensures ∙ ap (value_told cause) c.thrown.ensures) refl in
    record {
      made =
          event-told (pause_params sight c.args.number s.standing.frames value hits cause h).made c.in_ok-pen.ensures
          c.in_ok-begin_event.ensures (written-as (ap (λ m. compact_text m.made) same) c.in_ok-write_pause.ensures.made)
          c.in_ok-end_message.ensures c.finish.ensures;
      held = c.in_ok-write_pause.ensures.held ∙ ap (λ m. m.handles) same;
    }
