-- Parts of the texts that clients are sent.
use Rattle.std.specs.Prelude.{ℕ, List, [], ◌∷◌, ◌++◌, codes, decimal}

-- pieces of a text, one after another
abbrev pub joined : List (List ℕ) → List ℕ
joined [] = []
joined (piece ∷ pieces) = piece ++ joined pieces

-- an object without a preview, by the handle of this number of this session
abbrev pub an_object : ℕ → ℕ → List ℕ
an_object session handle =
    joined (codes "{\"className\":\"Object\",\"description\":\"Object\",\"objectId\":\"" ∷ decimal session ∷ codes "."
    ∷ decimal handle ∷ codes "\",\"type\":\"object\"}" ∷ [])

-- a line and a column of the script
abbrev pub a_place : ℕ → ℕ → List ℕ
a_place line column =
    joined (codes "{\"columnNumber\":" ∷ decimal column ∷ codes ",\"lineNumber\":" ∷ decimal line
    ∷ codes ",\"scriptId\":\"1\"}" ∷ [])

abbrev pub undefined : List ℕ
undefined = codes "{\"type\":\"undefined\"}"
