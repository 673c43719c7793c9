-- Texts of one line: `%`, LF and CR are written as `%25`, `%0A` and `%0D`.
use Rattle.std.specs.Prelude.{ℕ, List, [], ◌∷◌, ◌++◌, Bool, ◌==◌, ◌&&◌, ◌||◌, not, if◌then◌else◌, codes, Option, Some, None}
use Rattle.std.specs.Option.{option_and_then, option_map}
use Rattle.cdp_text.specs.Units.{utf8_of}

-- ---- texts as they are written

-- what a byte is written as
abbrev pub byte_escaped : ℕ → List ℕ
byte_escaped byte =
    if byte == 37 then codes "%25" else if byte == 10 then codes "%0A" else if byte == 13 then codes "%0D" else byte ∷
    []

-- a byte that is written as it is
abbrev pub is_plain : ℕ → Bool
is_plain byte = not (byte == 37) && not (byte == 10) && not (byte == 13)

-- what a text is written as
abbrev pub escaped : List ℕ → List ℕ
escaped [] = []
escaped (byte ∷ text) = byte_escaped byte ++ escaped text

-- what a printed text of UTF-16 units is written as; a surrogate without a partner is U+FFFD
abbrev pub printed_escaped : List ℕ → List ℕ
printed_escaped units = escaped (utf8_of units)

-- ---- and as they are read

-- LF or CR
abbrev pub is_line_end : ℕ → Bool
is_line_end byte = byte == 10 || byte == 13

-- the byte for which `%` stands where these two are behind it, if it stands for one
abbrev pub stands_for : ℕ → ℕ → Option ℕ
stands_for first second =
    if first == 50 && second == 53 then Some 37
    else if first == 48 && second == 65 then Some 10
    else if first == 48 && second == 68 then Some 13 else None

-- a byte before a text, if there is a text
abbrev pub begun : Option (List ℕ) → ℕ → Option (List ℕ)
begun text byte = option_map (λ rest. byte ∷ rest) text

-- the text that is written so, read a byte or a `%` form at a time
abbrev mutual
  -- the text that is written so; LF, CR and `%` don't stand for themselves
  pub unescaped : List ℕ → Option (List ℕ)
  unescaped [] = Some []
  unescaped (byte ∷ text) =
      if byte == 37 then unescaped_form text else if is_line_end byte then None else begun (unescaped text) byte

  -- the text that is written as `%` with this behind it
  pub unescaped_form : List ℕ → Option (List ℕ)
  unescaped_form [] = None
  unescaped_form (first ∷ []) = None
  unescaped_form (first ∷ second ∷ text) = option_and_then (begun (unescaped text)) (stands_for first second)
