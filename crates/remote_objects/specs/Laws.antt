-- What holds of descriptors and of previews.
use Rattle.std.specs.Prelude.{◌≡◌, ◌≤◌, ℕ, List, [], ◌∷◌, map, length, take, nat_lt, Option, Some}
use Rattle.js_heap.specs.declared.cell.Cell.{Cell}
use Rattle.js_heap.specs.declared.cell.Cell.TheVariants as cells
use Rattle.js_heap.specs.declared.cell.Property.{Property}
use Rattle.js_heap.specs.declared.value.Value.{Value}
use Rattle.js_heap.specs.World.{World}
use Rattle.js_semantics.specs.BuiltIns.{keys_of_cell}
use Rattle.object_groups.specs.declared.handle.Target.{Target}
use Rattle.object_groups.specs.Handles.{HeldHandles}
use Rattle.cdp_json.specs.Json.{Json}
use Rattle.remote_objects.specs.declared.detail.Detail.{Detail}
use Rattle.remote_objects.specs.Previews.{entry, property_preview, listed, most_listed}
use Rattle.remote_objects.specs.Sights.{Sight}
use Rattle.remote_objects.specs.ByValue.{value_given, if_within, by_value, most_deep, most_met}
use Rattle.remote_objects.specs.Descriptors.{FlaggedProperty, object_slots, slots_of, descriptor_of, descriptors_with}

-- the name of a property as it is described
abbrev pub slot_name : FlaggedProperty → List ℕ
slot_name p = p.name

-- the key of a property as an object has it
abbrev pub key_of : Property → List ℕ
key_of p = p.key

-- these are descriptors of the properties, one of each in order, whatever their values are described as
abbrev pub AreDescriptors : List FlaggedProperty → List Json → Type 0
AreDescriptors [] [] = Unit {0}
AreDescriptors [] (j ∷ js) = ⊥
AreDescriptors (p ∷ ps) [] = ⊥
AreDescriptors (p ∷ ps) (j ∷ js) = ((value : Json) × (j ≡ descriptor_of p value)) × AreDescriptors ps js

-- each property of a target is described once, in order
abbrev pub DescribesEach : Type 0
DescribesEach =
    (s : Sight) (detail : Detail) (group : Option (List ℕ)) (target : Target) (h : HeldHandles)
    → AreDescriptors (slots_of s.world target) (descriptors_with s detail group target h).made

-- those of an object have its own keys, in order
abbrev pub NamesAreKeys : Type 0
NamesAreKeys = (ps : List Property) → map slot_name (object_slots (Some (cells.Object ps))) ≡ map key_of ps

-- these are previews of the properties of these keys, one of each in order, whatever their values are
abbrev pub ArePreviews : World → List (List ℕ) → List Json → Type 0
ArePreviews w [] [] = Unit {0}
ArePreviews w [] (j ∷ js) = ⊥
ArePreviews w (k ∷ ks) [] = ⊥
ArePreviews w (k ∷ ks) (j ∷ js) = ((value : Value) × (j ≡ property_preview w (entry k value))) × ArePreviews w ks js

-- a preview lists the first of the keys that `Object.keys` gives (ECMA-262, 20.1.2.18)
abbrev pub ListsFirstKeys : Type 0
ListsFirstKeys =
    (w : World) (cell : Option Cell) → ArePreviews w (take (most_listed cell) (keys_of_cell cell)) (listed w cell).first

-- it says that there are more where `Object.keys` gives more
abbrev pub SaysWhetherMore : Type 0
SaysWhetherMore =
    (w : World) (cell : Option Cell) → (listed w cell).more ≡ nat_lt (most_listed cell) (length (keys_of_cell cell))

-- a value by value is the same however many more levels are looked at
abbrev pub IgnoresLevels : Type 0
IgnoresLevels =
    (w : World) (n : ℕ) (v : Value) → most_deep ≤ n → if_within most_deep most_met (value_given w n v) ≡ by_value w v
