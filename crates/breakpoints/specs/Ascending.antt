-- Lists whose values ascend by an order, and what a search finds there.
use Rattle.std.specs.Prelude.{◌≡◌, ℕ, ◌<◌, ◌≤◌, List, length, Result, MatchResult}
use Rattle.std.specs.List.{HoldsAt}
use Rattle.std.specs.List.Sorted.{IsPartitionPoint}
use Rattle.std.specs.declared.cmp.Ordering.{Ordering}
use Rattle.std.specs.declared.cmp.Ordering.TheVariants.{Less, Equal, Greater}

-- a value stands at a place
abbrev pub Stands : {K : Type 0} → (K → K → Ordering) → List K → K → ℕ → Type 0
Stands cmp values value place = (place < length values) × HoldsAt (λ y. cmp y value ≡ Equal) values place

-- the values below one stand before a place, and those above it from there on
abbrev pub Parts : {K : Type 0} → (K → K → Ordering) → List K → K → ℕ → Type 0
Parts cmp values value place =
    (place ≤ length values) × IsPartitionPoint (λ y. cmp y value ≡ Less) (λ y. cmp y value ≡ Greater) values place

-- where a value stands, or else where it would
abbrev pub IsSearched : {K : Type 0} → (K → K → Ordering) → List K → K → Result ℕ ℕ → Type 0
IsSearched cmp values value result = MatchResult result (Stands cmp values value) (Parts cmp values value)
