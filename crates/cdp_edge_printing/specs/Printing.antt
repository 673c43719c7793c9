-- The bytes of printed texts.
use Rattle.std.specs.Prelude.{ℕ, List, [], ◌∷◌, ◌++◌}
use Rattle.cdp_text.specs.Units.{utf8_of}

-- the line of a text: what it spells, and LF
abbrev pub printed_line : List ℕ → List ℕ
printed_line units = utf8_of units ++ 10 ∷ []

-- the lines of texts, one behind another
abbrev pub printed_lines : List (List ℕ) → List ℕ
printed_lines [] = []
printed_lines (text ∷ texts) = printed_line text ++ printed_lines texts
