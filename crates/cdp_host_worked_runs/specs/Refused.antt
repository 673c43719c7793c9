-- Of what is wrong with a text the first is told: no JSON, no object, no id, no method, an unknown method.
use Rattle.std.specs.Prelude.{List, [], ◌∷◌, codes}
use Rattle.cdp_host_worked_runs.specs.Journals.{Call, Outcome, attach, tell, take}
use Rattle.cdp_host_worked_runs.specs.Texts.{joined}

-- the journal
abbrev pub refused : List Call
refused =
    attach
    ∷ tell 1 (codes "{\"id\":1")
    ∷ tell 1 (codes "[]")
    ∷ tell 1 (codes "{\"id\":1.5,\"method\":\"X.y\"}")
    ∷ tell 1 (codes "{\"id\":1}")
    ∷ tell 1 (codes "{\"id\":1,\"method\":\"X.y\"}")
    ∷ take 1
    ∷ []

-- what it comes to
abbrev pub refused_outcome : Outcome
refused_outcome = record {
  runs = [];
  printed = [];
  sent = codes "{\"error\":{\"code\":-32700,\"message\":\"Message must be a valid JSON\"}}"
      ∷ codes "{\"error\":{\"code\":-32600,\"message\":\"Message must be an object\"}}"
      ∷ joined (
      codes "{\"error\":{\"code\":-32600,\"message\":\"Message must have integer 'id' " ∷ codes "property\"}}"
      ∷ [])
      ∷ joined (
      codes "{\"error\":{\"code\":-32600,\"message\":\"Message must have string 'method' "
      ∷ codes "property\"},\"id\":1}" ∷ [])
      ∷ codes "{\"error\":{\"code\":-32601,\"message\":\"'X.y' wasn't found\"},\"id\":1}"
      ∷ [];
}
