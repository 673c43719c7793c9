-- Lines and columns of a text of UTF-16 units, both counted from 0, by the line terminators of ECMA-262, section 12.3.
use Rattle.std.specs.Prelude.{◌≡◌, ℕ, zero, suc, ◌+◌, ◌<◌, ◌≤◌, Bool, false, not, ◌&&◌, ◌||◌, ◌⊎◌, ◌==◌, List, length, map, filter, drop, take_while, slice_get, slice_index, MatchOption, ⊤, if◌then◌else◌}
use Rattle.std.specs.List.{range_with_len}
use Rattle.cdp_text.specs.declared.position.Pos.{Pos}
use Rattle.cdp_text.specs.declared.position.Place.{Place}

-- the units that are line terminators: LF, CR, LS and PS
abbrev pub is_line_terminator : ℕ → Bool
is_line_terminator c = c == 0x0A || c == 0x0D || c == 0x2028 || c == 0x2029

-- the offset stands between a CR and its LF
abbrev pub is_inside_cr_lf : List ℕ → ℕ → Bool
is_inside_cr_lf u zero = false
is_inside_cr_lf u (suc i) = slice_index u i == 0x0D && slice_index u (suc i) == 0x0A

-- the unit at i ends its line: a line terminator does, but a CR before an LF leaves that to the LF
abbrev pub ends_line : List ℕ → ℕ → Bool
ends_line u i = is_line_terminator (slice_index u i) && not (is_inside_cr_lf u (suc i))

-- p is on an earlier line than q, or before it on the same line
abbrev pub IsBefore : Pos → Pos → Type 0
IsBefore p q = (p.line < q.line) ⊎ ((p.line ≡ q.line) × (p.col < q.col))

-- p is in an earlier script than q, or before it in the same script
abbrev pub IsPlaceBefore : Place → Place → Type 0
IsPlaceBefore p q = (p.script < q.script) ⊎ ((p.script ≡ q.script) × IsBefore p.pos q.pos)

-- where the text begins
abbrev pub origin : Pos
origin = record { line = 0; col = 0 }

-- the position behind a unit: a unit that ends its line adds one to the line and sets the column to 0, each other unit
-- adds one to the column
abbrev pub advanced : Pos → Bool → Pos
advanced p ends = if ends then record { line = p.line + 1; col = 0 } else record { line = p.line; col = p.col + 1 }

-- the position of an offset: the fold over the units before it
unfoldable pub position : List ℕ → ℕ → Pos
position u zero = origin
position u (suc i) = advanced (position u i) (ends_line u i)

-- i is the offset of p: it is in the text or at its end, has the position p, and isn't between a CR and its LF
pub record IsOffset (u : List ℕ) (p : Pos) (i : ℕ) : Type 0 where
  pub within : i ≤ length u
  pub placed : position u i ≡ p
  pub whole : is_inside_cr_lf u i ≡ false

-- the offsets below n that have the column 0
abbrev pub line_starts_below : List ℕ → ℕ → List ℕ
line_starts_below u n = filter (λ i. (position u i).col == 0) (range_with_len 0 n)

-- the offsets at which the lines begin, in order
unfoldable pub line_starts : List ℕ → List ℕ
line_starts u = line_starts_below u (length u + 1)

-- the units from an offset up to the next line terminator, or to the end
abbrev pub line_from : List ℕ → ℕ → List ℕ
line_from u start = take_while (λ c. not (is_line_terminator c)) (drop start u)

-- the lines of a text, without their terminators
unfoldable pub lines : List ℕ → List (List ℕ)
lines u = map (line_from u) (line_starts u)

-- the line isn't there, or the column is past the line's end without its terminator
abbrev pub IsPastLine : List ℕ → Pos → Type 0
IsPastLine u p = MatchOption (slice_get (lines u) p.line) ⊤ (λ line. length line < p.col)
