-- Histories: lists of entries, each with the number of the pass that made it.
pub use Rattle.cdp_host_isolation.specs.Makers.{by}
use Rattle.std.specs.Prelude.{◌≡◌, ℕ, ◌==◌, List, [], ◌∷◌, ◌++◌, ◌+◌, ◌≤◌, length, Bool, true, false, if◌then◌else◌, nat_lt}

-- the greatest value of the ticket word: a history has no more entries
abbrev pub limit : ℕ
limit = 4611686018427387904

-- A history that has an entry for any two of the tickets at least, so that none is left after it. A turn with one ticket
-- leaves an entry, and one with two tickets one or two.
abbrev pub IsSpent : {A : Type 0} → List A → Type 0
IsSpent h = limit ≤ length h + length h

-- a number is among these
abbrev pub has : ℕ → List ℕ → Bool
has x [] = false
has x (y ∷ ys) = if y == x then true else has x ys

-- entries of one maker
abbrev pub made : {E : Type 0} → ℕ → List E → List (ℕ × E)
made k [] = []
made k (e ∷ es) = (k, e) ∷ made k es

-- a list is a beginning of another
abbrev pub Begins : {A : Type 0} → List A → List A → Type 0
Begins {A} xs ys = (rest : List A) × (ys ≡ xs ++ rest)

-- the longer of two lists, the first where they are equally long
abbrev pub longer : {A : Type 0} → List A → List A → List A
longer xs ys = if nat_lt (length xs) (length ys) then ys else xs
