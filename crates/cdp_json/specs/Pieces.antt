-- Lists and objects, piece by piece, as they are written.
use Rattle.std.specs.Prelude.{◌≡◌, ℕ, Bool, true, false, List, [], ◌∷◌, ◌++◌}
use Rattle.cdp_json.specs.Compact.{string_text, with_commas, behind_commas}

-- behind what a pen had written, it wrote this piece
pub record Wrote (old piece new : List ℕ) : Type 0 where
  pub is : new ≡ old ++ piece

-- what stands before a value: a comma, if another one is before it
abbrev pub comma_if : Bool → List ℕ
comma_if true = 44 ∷ []
comma_if false = []

-- texts with commas between them, and one before the first, if another text is before it
abbrev pub commas_after : Bool → List (List ℕ) → List ℕ
commas_after true texts = behind_commas texts
commas_after false texts = with_commas texts

-- members of these keys and values' texts behind another member, with the end of their object
abbrev pub members_behind : List (List ℕ × List ℕ) → List ℕ
members_behind [] = 125 ∷ []
members_behind (m ∷ ms) = 44 ∷ (string_text m.0 ++ 58 ∷ (m.1 ++ members_behind ms))

-- an object of members of these keys and values' texts, as they stand
abbrev pub object_in_order : List (List ℕ × List ℕ) → List ℕ
object_in_order [] = 123 ∷ 125 ∷ []
object_in_order (m ∷ ms) = 123 ∷ (string_text m.0 ++ 58 ∷ (m.1 ++ members_behind ms))
