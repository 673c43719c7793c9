-- The messages as JSON values: the text of each is the compact text of an object.
use Rattle.std.specs.Prelude.{◌≡◌, ℕ, pos, List, codes, IsUtf8, Option, Some, None}
use Rattle.cdp_text.specs.Units.{utf16_of}
use Rattle.cdp_json.specs.Json.{Json, number, text, object, Members, no_members, member}
use Rattle.cdp_json.specs.Compact.{compact_text}
use Rattle.cdp_json.specs.Messages.{result_text, refusal_text, event_text}
use Rattle.cdp_json.specs.Refusals.{code_of, message_of}
use Rattle.cdp_json.specs.declared.refusal.Refusal.{Refusal}

-- the reply to a command that was done: its `id` and its `result`
abbrev pub result_value : ℕ → Json → Json
result_value id result = object (member (codes "id") (number (pos id)) (member (codes "result") result no_members))

-- the member `id`, where the id was read
abbrev pub id_member : Option ℕ → Members
id_member None = no_members
id_member (Some id) = member (codes "id") (number (pos id)) no_members

-- why a command is refused: a `code` and a `message`
abbrev pub error_value : Refusal → Json
error_value refusal =
    object (member (codes "code") (number (code_of refusal))
    (member (codes "message") (text (message_of refusal)) no_members))

-- the reply to a command that is refused: an `error`, and the `id` where it was read
abbrev pub refusal_value : Option ℕ → Refusal → Json
refusal_value id refusal = object (member (codes "error") (error_value refusal) (id_member id))

-- an event: its `method` and its `params`
abbrev pub event_value : List ℕ → Json → Json
event_value method params =
    object (member (codes "method") (text (utf16_of method)) (member (codes "params") params no_members))

-- ---- the laws

-- the reply to a command that was done is the text of its value
abbrev pub ResultIsValue : Type 0
ResultIsValue = (id : ℕ) (result : Json) → result_text id result ≡ compact_text (result_value id result)

-- the reply to a command that is refused is the text of its value
abbrev pub RefusalIsValue : Type 0
RefusalIsValue = (id : Option ℕ) (refusal : Refusal) → refusal_text id refusal ≡ compact_text (refusal_value id refusal)

-- an event is the text of its value, for a method in UTF-8
abbrev pub EventIsValue : Type 0
EventIsValue =
    (method : List ℕ) (params : Json)
    → IsUtf8 method
    → event_text method params ≡ compact_text (event_value method params)
