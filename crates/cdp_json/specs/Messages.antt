-- The messages that a session is sent (JSON-RPC 2.0): replies, refusals and events, as compact JSON with its keys in
-- order.
use Rattle.std.specs.Prelude.{ℕ, List, [], ◌++◌, codes, decimal, Option, Some, None}
use Rattle.std.specs.Fmt.{signed_decimal}
use Rattle.json.specs.Print.{quoted}
use Rattle.cdp_json.specs.Json.{Json}
use Rattle.cdp_json.specs.Compact.{compact_text, string_text}
use Rattle.cdp_json.specs.Refusals.{code_of, message_of}
use Rattle.cdp_json.specs.declared.refusal.Refusal.{Refusal}

-- the reply to a command that was done: `{"id":..,"result":..}`
abbrev pub result_text : ℕ → Json → List ℕ
result_text id result = codes "{\"id\":" ++ (decimal id ++ (codes ",\"result\":" ++ (compact_text result ++ codes "}")))

-- the member `id`, where the id was read
abbrev pub id_text : Option ℕ → List ℕ
id_text None = []
id_text (Some id) = codes ",\"id\":" ++ decimal id

-- the beginning of a refusal: `{"error":{"code":..,"message":..}`
abbrev pub error_text : Refusal → List ℕ
error_text refusal =
    codes "{\"error\":{\"code\":" ++
    (signed_decimal (code_of refusal) ++ (codes ",\"message\":" ++ (string_text (message_of refusal) ++ codes "}")))

-- the reply to a command that is refused: `{"error":{"code":..,"message":..},"id":..}`
abbrev pub refusal_text : Option ℕ → Refusal → List ℕ
refusal_text id refusal = error_text refusal ++ (id_text id ++ codes "}")

-- an event: `{"method":..,"params":..}`
abbrev pub event_text : List ℕ → Json → List ℕ
event_text method params =
    codes "{\"method\":" ++ (quoted method ++ (codes ",\"params\":" ++ (compact_text params ++ codes "}")))
