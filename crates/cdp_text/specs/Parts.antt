-- The parts of a text: what stands behind a front, and around the first byte of a kind.
use Rattle.std.specs.Prelude.{ℕ, List, [], ◌∷◌, ◌==◌, if◌then◌else◌, Option, Some, None}
use Rattle.std.specs.Option.{option_map}

-- what stands behind this front of a text
abbrev pub behind : List ℕ → List ℕ → Option (List ℕ)
behind [] text = Some text
behind (byte ∷ front) [] = None
behind (byte ∷ front) (first ∷ text) = if byte == first then behind front text else None

-- a text around a byte
pub record Halves : Type 0 where
  pub front : List ℕ
  pub back : List ℕ

-- a text with one more byte at its beginning
abbrev pub longer : ℕ → Halves → Halves
longer byte halves = record halves { front = byte ∷ halves.front }

-- what stands before and behind the first such byte
abbrev pub halves : ℕ → List ℕ → Option Halves
halves separator [] = None
halves separator (byte ∷ text) =
    if byte == separator then Some record { front = []; back = text } else option_map (longer byte)
    (halves separator text)
