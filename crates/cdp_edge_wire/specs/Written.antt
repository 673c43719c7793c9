-- What a wire took, where that is told.
use Rattle.std.specs.Prelude.{◌≡◌, ◌≢◌, ℕ, List, [], ◌++◌, Option, Some, None}

-- what is told, with these bytes after it; nothing where nothing is told
abbrev pub gains : Option (List ℕ) → List ℕ → Option (List ℕ)
gains None bytes = None
gains (Some old) bytes = Some (old ++ bytes)

-- it gained some first bytes of these, but not all of them, and nothing else
abbrev pub GainsLess : Option (List ℕ) → Option (List ℕ) → List ℕ → Type 0
GainsLess old new bytes = (part rest : List ℕ) × (rest ≢ []) × (bytes ≡ part ++ rest) × (new ≡ gains old part)
