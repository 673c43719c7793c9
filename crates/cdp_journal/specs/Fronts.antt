-- What stands behind a front, line by line.
use Rattle.std.specs.Prelude.{ℕ, List, [], ◌∷◌, ◌++◌, option_to_list}
use Rattle.cdp_text.specs.Parts.{behind}

-- what stands behind this front on the lines that begin with it, in order
abbrev pub behind_each : List ℕ → List (List ℕ) → List (List ℕ)
behind_each front [] = []
behind_each front (line ∷ lines) = option_to_list (behind front line) ++ behind_each front lines
