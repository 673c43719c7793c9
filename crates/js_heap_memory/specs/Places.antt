-- Names at their places, and the index of a scope that has many.
use Rattle.std.specs.Prelude.{◌≡◌, ℕ, zero, suc, ◌+◌, List, [], ◌∷◌, ◌++◌, length, Option, Some, None, nat_eq, nat_lt, if◌then◌else◌}
use Rattle.std.specs.HashMap.{HashMap, get_by}
use Rattle.js_heap.specs.declared.value.Value.{Value}
use Rattle.js_heap_memory.specs.declared.stored.Slot.{Slot}

-- another value for the name at a place, if there is one
abbrev pub with_value_at : List Slot → ℕ → Value → List Slot
with_value_at [] i v = []
with_value_at (s ∷ ss) zero v = record s { value = Some v } ∷ ss
with_value_at (s ∷ ss) (suc i) v = s ∷ with_value_at ss i v

-- the place of a number in a scope; the length where there is none
abbrev pub slot_place : List Slot → ℕ → ℕ
slot_place [] n = 0
slot_place (s ∷ ss) n = if nat_eq s.name.number n then 0 else 1 + slot_place ss n

-- the place of a number in a scope, where it has one
abbrev pub place_in : List Slot → ℕ → Option ℕ
place_in ss n = if nat_lt (slot_place ss n) (length ss) then Some (slot_place ss n) else None

-- an index has the first place of each number in a scope, and no number more
pub record IsPlaceIndex {S : Type 0} (ss : List Slot) (m : HashMap ℕ ℕ S) : Type 0 where
  pub finds : (n : ℕ) → get_by (nat_eq n) m ≡ place_in ss n

-- an index that has the names of a scope, as many as the place says, has that one more afterwards
abbrev pub Enters : {S : Type 0} → Slot → ℕ → HashMap ℕ ℕ S → HashMap ℕ ℕ S → Type 0
Enters s place old new =
    (ss : List Slot) → length ss ≡ place → IsPlaceIndex ss old → IsPlaceIndex (ss ++ s ∷ []) new
