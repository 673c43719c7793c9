-- Tables of names: a name is the number of its text.
use Rattle.std.specs.Prelude.{◌≡◌, ℕ, suc, ◌+◌, List, [], ◌∷◌, ◌++◌, length, replicate, Option, Some, None, slice_get, unwrap_or, nat_lt, if◌then◌else◌}
use Rattle.js_heap.specs.Keys.{same_units}

-- how many units the texts of a table have
abbrev pub total : List (List ℕ) → ℕ
total [] = 0
total (t ∷ ts) = length t + total ts

-- a text longer than all of a table, another for each number
abbrev pub spare : List (List ℕ) → ℕ → List ℕ
spare ts n = replicate (suc (total ts + n)) 0

-- the text of a number; a number that no name has stands for a text that no name is
unfoldable pub name_of : List (List ℕ) → ℕ → List ℕ
name_of ts n = unwrap_or (slice_get ts n) (spare ts n)

-- no text stands twice
abbrev pub Differ : List (List ℕ) → Type 0
Differ ts = (i j : ℕ) (t : List ℕ) → slice_get ts i ≡ Some t → slice_get ts j ≡ Some t → i ≡ j

-- the place of a text; the length where there is none
abbrev pub text_place : List (List ℕ) → List ℕ → ℕ
text_place [] t = 0
text_place (u ∷ us) t = if same_units u t then 0 else 1 + text_place us t

-- the number of a text, where it is in the table
abbrev pub number_of : List (List ℕ) → List ℕ → Option ℕ
number_of ts t = if nat_lt (text_place ts t) (length ts) then Some (text_place ts t) else None

-- a table that goes on behind another
pub record GoesOn (ts us : List (List ℕ)) : Type 0 where
  pub more : List (List ℕ)
  pub is : us ≡ ts ++ more
