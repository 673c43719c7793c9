-- Messages that are written around their results and parameters.
use Rattle.std.proofs.Common.{◌≡◌, ℕ, List, ◌++◌, codes, decimal, ap, append_assoc}
use Rattle.json.specs.Print.{quoted}
use Rattle.cdp_json.specs.Json.{Json}
use Rattle.cdp_json.specs.Compact.{compact_text}
use Rattle.cdp_json.specs.Messages.{result_text, event_text}
use Rattle.cdp_json.specs.Envelopes.{result_front, event_front, message_back}

pub result-written : (id : ℕ) (result : Json)
    → result_front id ++ (compact_text result ++ message_back) ≡ result_text id result
result-written id result =
    ap (λ s. codes "{\"id\":" ++ s)
    (append_assoc (decimal id) (codes ",\"result\":") (compact_text result ++ message_back))

pub event-written : (method : List ℕ) (params : Json)
    → event_front method ++ (compact_text params ++ message_back) ≡ event_text method params
event-written method params =
    ap (λ s. codes "{\"method\":" ++ s)
    (append_assoc (quoted method) (codes ",\"params\":") (compact_text params ++ message_back))
