-- What one scope says of a name.
use Rattle.std.specs.Prelude.{◌≡◌, ◌<◌, ℕ, List, Option, Some, None, length}
use Rattle.js_heap.specs.declared.value.Addr.{Addr}
use Rattle.js_heap.specs.declared.cell.Binding.{Binding}
use Rattle.js_heap.specs.declared.cell.Cell.{Cell}
use Rattle.js_heap.specs.Places.{name_place}
use Rattle.js_heap_memory.specs.declared.slots.SlotLookup.{SlotLookup}
use Rattle.js_heap_memory.specs.declared.slots.SlotLookup.TheVariants.{Here, Outward, Nowhere}
use Rattle.js_heap_memory.specs.Calls.{KeptBinding, HasPlace, kept_slot}

-- what is found, where the search goes on outward
abbrev pub looked_on : SlotLookup → (Addr → Option KeptBinding) → Option KeptBinding
looked_on (Here f) further = kept_slot (Some f)
looked_on (Outward a) further = further a
looked_on Nowhere further = None

-- the scope doesn't have the name
abbrev pub IsNotHere : SlotLookup → Type 0
IsNotHere (Here f) = ⊥
IsNotHere (Outward a) = Unit {0}
IsNotHere Nowhere = Unit {0}

-- a name that a scope has stands at its place there
abbrev pub IsPlacedIn : SlotLookup → Addr → List Binding → List ℕ → Type 0
IsPlacedIn (Here f) at bs name = (f.scope ≡ at) × (f.place ≡ name_place bs name) × (f.place < length bs)
IsPlacedIn (Outward a) at bs name = Unit {0}
IsPlacedIn Nowhere at bs name = Unit {0}

-- what is found in a scope stands at its place in that scope's cell
abbrev pub IsPlaced : SlotLookup → Addr → Option Cell → List ℕ → Type 0
IsPlaced (Here f) at c name = (f.scope ≡ at) × HasPlace c f.place name
IsPlaced (Outward a) at c name = Unit {0}
IsPlaced Nowhere at c name = Unit {0}
