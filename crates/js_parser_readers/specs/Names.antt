-- The names that are taken in a scope.
use Rattle.std.specs.Prelude.{ℕ, Bool, List, map, reverse, nat_eq}
use Rattle.std.specs.Borrow.{Bor}
use Rattle.std.specs.Cmp.Lexicographic.{pointwise}

-- the names lent, in order
abbrev pub texts : List (Bor (List ℕ)) → List (List ℕ)
texts names = map (λ n. n.now) names

-- the names lent, the one taken last first
abbrev pub taken : List (Bor (List ℕ)) → List (List ℕ)
taken names = reverse (map (λ n. n.now) names)

-- two names lent have the same units
abbrev pub is_same_name : Bor (List ℕ) → Bor (List ℕ) → Bool
is_same_name m n = pointwise nat_eq m.now n.now
