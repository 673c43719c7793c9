-- How a session is told of the scripts (Chrome DevTools Protocol 1.3, `Debugger.scriptParsed`).
use Rattle.std.specs.Prelude.{ℕ, pos, List, [], ◌∷◌, Bool, true, false, map, length, codes, decimal}
use Rattle.hex.specs.Hex.{encode_lower}
use Rattle.sha2.specs.Sha256.{sha256}
use Rattle.cdp_text.specs.Position.{position}
use Rattle.cdp_text.specs.Units.{utf8_of}
use Rattle.cdp_text.specs.declared.position.Pos.{Pos}
use Rattle.cdp_json.specs.Json.{Json, number, text}
use Rattle.cdp_json.specs.Messages.{event_text}
use Rattle.cdp_json.specs.Parts.{Pair, object_of}
use Rattle.js_tree.specs.declared.script.Script.{Script}

-- the hash of a source: the SHA-256 of its UTF-8, in lower-case hexadecimal digits
abbrev pub source_hash : List ℕ → List ℕ
source_hash source = encode_lower (sha256 (utf8_of source))

-- where a source ends
abbrev pub end_of : List ℕ → Pos
end_of source = position source (length source)

-- the id of a script is its number as a decimal
abbrev pub script_id : ℕ → List ℕ
script_id n = decimal n

-- where a script ends, in which context it runs, its hash, its id, where it starts, and its URL
abbrev pub script_pairs : Script → List Pair
script_pairs s =
    (codes "endColumn", number (pos (end_of s.source).col))
    ∷ (codes "endLine", number (pos (end_of s.source).line))
    ∷ (codes "executionContextId", number (pos 1))
    ∷ (codes "hash", text (source_hash s.source))
    ∷ (codes "scriptId", text (script_id s.number))
    ∷ (codes "startColumn", number (pos 0))
    ∷ (codes "startLine", number (pos 0))
    ∷ (codes "url", text s.url) ∷ []

-- what is told of a script
abbrev pub script_params : Script → Json
script_params s = object_of (script_pairs s)

-- the event of a script
unfoldable pub script_parsed_text : Script → List ℕ
script_parsed_text s = event_text (codes "Debugger.scriptParsed") (script_params s)

-- a session that had the debugger enabled is told nothing by enabling it; another one of each script, in order
abbrev pub scripts_told : List Script → Bool → List (List ℕ)
scripts_told scripts true = []
scripts_told scripts false = map script_parsed_text scripts
