-- Texts one behind another in one list of units, with the places where they end.
use Rattle.std.specs.Prelude.{◌≡◌, ℕ, ◌+◌, ◌-◌, List, [], ◌∷◌, length, take, drop}
use Rattle.std.specs.List.{concat}

-- where texts end, the first of which begins at a place
abbrev pub ends_from : ℕ → List (List ℕ) → List ℕ
ends_from n [] = []
ends_from n (t ∷ ts) = (n + length t) ∷ ends_from (n + length t) ts

-- the texts that end at these places, made of the units from a place on
abbrev pub texts_from : ℕ → List ℕ → List ℕ → List (List ℕ)
texts_from n [] units = []
texts_from n (e ∷ es) units = take (e - n) units ∷ texts_from e es (drop (e - n) units)

-- units and ends are those of texts
pub record IsJoined (us es : List ℕ) (ts : List (List ℕ)) : Type 0 where
  pub units : us ≡ concat ts
  pub ends : es ≡ ends_from 0 ts
