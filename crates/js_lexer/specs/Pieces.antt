-- Units that are made of pieces, one after another.
use Rattle.std.specs.Prelude.{◌≡◌, ℕ, zero, suc, List, [], ◌∷◌, ◌++◌}
use Rattle.std.specs.List.{concat}

-- each piece is one that may stand before the later ones and `more`
abbrev pub Each : (List ℕ → List ℕ → Type 0) → List (List ℕ) → List ℕ → Type 0
Each P [] more = Unit {0}
Each P (t ∷ ts) more = P t (concat ts ++ more) × Each P ts more

-- the units are such pieces in order, where `more` comes after them
pub record AreMadeOf (P : List ℕ → List ℕ → Type 0) (us more : List ℕ) : Type 0 where
  pub pieces : List (List ℕ)
  pub joined : us ≡ concat pieces
  pub each : Each P pieces more

-- go on behind a piece of so many units, the first of which is passed
abbrev pub behind : (ℕ → ℕ) → ℕ → ℕ
behind go zero = 0
behind go (suc n) = suc (go n)

-- how long the run of pieces at the front is, where so many units of its first piece are still to be passed; `piece`
-- says how long the piece at the front is, 0 for none
abbrev pub run : (List ℕ → ℕ) → ℕ → List ℕ → ℕ
run piece k [] = 0
run piece zero (u ∷ us) = behind (λ n. run piece n us) (piece (u ∷ us))
run piece (suc k) (u ∷ us) = suc (run piece k us)
