-- Where properties and names stand in their lists.
use Rattle.std.specs.Prelude.{ℕ, ◌+◌, List, [], ◌∷◌, Option, if◌then◌else◌}
use Rattle.js_heap.specs.declared.cell.Property.{Property}
use Rattle.js_heap.specs.declared.cell.Binding.{Binding}
use Rattle.js_heap.specs.Keys.{same_units, stands_before, index_of_key}

-- the place of a key's property; the length where there is none
abbrev pub key_place : List Property → List ℕ → ℕ
key_place [] key = 0
key_place (p ∷ ps) key = if same_units p.key key then 0 else 1 + key_place ps key

-- the place of a name's binding; the length where there is none
abbrev pub name_place : List Binding → List ℕ → ℕ
name_place [] n = 0
name_place (b ∷ bs) n = if same_units b.name n then 0 else 1 + name_place bs n

-- the place of a new property: in front of the first that its key stands before
abbrev pub new_place : List Property → Option ℕ → ℕ
new_place [] i = 0
new_place (p ∷ ps) i = if stands_before i (index_of_key p.key) then 0 else 1 + new_place ps i
