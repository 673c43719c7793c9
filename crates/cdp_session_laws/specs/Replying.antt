-- A reply that describes a value.
use Rattle.std.specs.Prelude.{◌≡◌}
use Rattle.js_heap.specs.ScratchSpaces.{ScratchSpace}
use Rattle.js_heap.specs.declared.change.Counted.TheVariants.{Units}
use Rattle.js_heap.specs.declared.value.Value.{Value}
use Rattle.cdp_json.specs.declared.params.Evaluation.{Evaluation}
use Rattle.remote_objects.specs.Remote.{remote_with}
use Rattle.cdp_session_messages.specs.Exceptions.{value_result}
use Rattle.cdp_session.specs.Evaluations.{detail_of, limit_of, sight_with}
use Rattle.cdp_session.specs.Rows.{Row, Refuses, Does}
use Rattle.cdp_session.specs.Sessions.{Session}
use Rattle.cdp_session.specs.Situations.{Situation}

-- the reply to an evaluation describes this value, beside the program's cells and some of the session's; where there is
-- no room to keep the text, it is refused
abbrev pub RepliesValue : Situation → Session → Value → Evaluation → Row → Type 0
RepliesValue s x v ev (Refuses why) = why ≡ limit_of Units
RepliesValue s x v ev (Does done) =
    (space : ScratchSpace) × (done.result ≡ value_result (remote_with (sight_with s x space)
    (detail_of ev.generate_preview) ev.object_group v x.handles).made)
