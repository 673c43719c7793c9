-- Lines of bytes, each ended by LF, the byte 10; the last may lack it.
use Rattle.std.specs.Prelude.{◌≡◌, ◌≢◌, ◌⊎◌, ℕ, List, [], ◌∷◌, ◌++◌, All, ◌==◌, if◌then◌else◌}

-- the lines with this byte put before the first
abbrev pub begun_with : ℕ → List (List ℕ) → List (List ℕ)
begun_with byte [] = (byte ∷ []) ∷ []
begun_with byte (line ∷ lines) = (byte ∷ line) ∷ lines

-- the lines of a text
abbrev pub lines_of : List ℕ → List (List ℕ)
lines_of [] = []
lines_of (byte ∷ text) = if byte == 10 then [] ∷ lines_of text else begun_with byte (lines_of text)

-- the lines one after another, each ended by LF
abbrev pub ended : List (List ℕ) → List ℕ
ended [] = []
ended (line ∷ lines) = line ++ 10 ∷ ended lines

-- no byte is LF
abbrev pub IsOneLine : List ℕ → Type 0
IsOneLine line = All (λ byte. byte ≢ 10) line

-- there is a last byte, and it isn't LF
abbrev pub LacksLastLineFeed : List ℕ → Type 0
LacksLastLineFeed text = (front : List ℕ) × (byte : ℕ) × (text ≡ front ++ byte ∷ []) × (byte ≢ 10)

-- no line holds LF, and each ended by LF they are the text, or the text with the LF that it lacks
pub record AreLines (text : List ℕ) (lines : List (List ℕ)) : Type 0 where
  pub apart : All IsOneLine lines
  pub together : (text ≡ ended lines) ⊎ (LacksLastLineFeed text × (text ++ 10 ∷ [] ≡ ended lines))
