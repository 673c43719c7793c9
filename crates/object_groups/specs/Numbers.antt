-- The order of numbers: each handle's is greater than those of the handles before it.
use Rattle.std.specs.Prelude.{ℕ, ◌<◌, List, [], ◌∷◌}
use Rattle.object_groups.specs.declared.handle.Handle.{Handle}

-- all numbers are below one
abbrev pub AllBelow : ℕ → List Handle → Type 0
AllBelow n [] = Unit {0}
AllBelow n (h ∷ hs) = (h.number < n) × AllBelow n hs

-- all numbers are above one
abbrev pub AllAbove : ℕ → List Handle → Type 0
AllAbove n [] = Unit {0}
AllAbove n (h ∷ hs) = (n < h.number) × AllAbove n hs

-- each number is below those behind it
abbrev pub IsAscending : List Handle → Type 0
IsAscending [] = Unit {0}
IsAscending (h ∷ hs) = AllAbove h.number hs × IsAscending hs
