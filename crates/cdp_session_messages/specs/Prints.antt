-- The event of a print (Chrome DevTools Protocol 1.3, `Runtime.consoleAPICalled`).
use Rattle.std.specs.Prelude.{ℕ, pos, List, [], ◌∷◌, codes}
use Rattle.cdp_json.specs.Json.{Json, number, text}
use Rattle.cdp_json.specs.Messages.{event_text}
use Rattle.cdp_json.specs.Parts.{object_of, list_of}

-- what is told of a print at a moment: its values, in which context, when, and by which call
abbrev pub print_params : List Json → ℕ → Json
print_params values moment = object_of (
    (codes "args", list_of values)
    ∷ (codes "executionContextId", number (pos 1))
    ∷ (codes "timestamp", number (pos moment))
    ∷ (codes "type", text (codes "log")) ∷ [])

-- the event of a print
abbrev pub print_text : List Json → ℕ → List ℕ
print_text values moment = event_text (codes "Runtime.consoleAPICalled") (print_params values moment)
