-- Texts that are joined one after another.
use Rattle.std.specs.Prelude.{ℕ, List, [], ◌∷◌, ◌++◌, Option, Some}
use Rattle.js_semantics.specs.BuiltIns.{with_part}

-- texts, each behind another text
abbrev pub behind_each : List ℕ → List (List ℕ) → List ℕ
behind_each separator [] = []
behind_each separator (t ∷ ts) = separator ++ t ++ behind_each separator ts

-- parts of a join before others
abbrev pub with_parts : List (List ℕ) → Option (List (List ℕ)) → Option (List (List ℕ))
with_parts [] rest = rest
with_parts (t ∷ ts) rest = with_part (Some t) (with_parts ts rest)
