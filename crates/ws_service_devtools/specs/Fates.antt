-- What becomes of a text, as the code holds it.
use Rattle.std.specs.Prelude.{◌≡◌, ◌≤◌, ◌⊎◌, ℕ, List, length, true, false, string_bytes, Some, None}
use Rattle.serde_json.specs.Data.{Data}
use Rattle.serde_json.specs.Read.{read}
use Rattle.cdp_edge_server.specs.declared.link.TheConstants.{MOST_BYTES}
use Rattle.ws_service_devtools.specs.Texts.{IsWithoutFlag, answered_id, clears_flag}
use Rattle.ws_service_devtools.specs.declared.text.Fate.{Fate}
use Rattle.ws_service_devtools.specs.declared.text.Fate.TheVariants.{HandedIn, Changed, TooBig, Answered}

-- what becomes of a command
abbrev pub IsFateOf : Data → Fate → Type 0
IsFateOf d HandedIn = (answered_id d ≡ None) × (clears_flag d ≡ false)
IsFateOf d (Changed other) =
    (answered_id d ≡ None)
    × (clears_flag d ≡ true)
    × ((e : Data) × IsWithoutFlag d e × (read (string_bytes other) ≡ Some e))
    × (length (string_bytes other) ≤ MOST_BYTES)
IsFateOf d TooBig = (answered_id d ≡ None) × (clears_flag d ≡ true)
IsFateOf d (Answered id) = answered_id d ≡ Some id

-- what becomes of a text: it is handed in where it has no value, and else by its value
abbrev pub IsFate : List ℕ → Fate → Type 0
IsFate text fate = ((fate ≡ HandedIn) × (read text ≡ None)) ⊎ ((d : Data) × (read text ≡ Some d) × IsFateOf d fate)
