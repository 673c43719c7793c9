-- What a change of a cell comes to, for the units that are left.
use Rattle.std.specs.Prelude.{◌≡◌, ◌<◌, ◌+◌, ◌*◌, ℕ, List, [], ◌∷◌, ◌++◌, length, take, slice_set, Option, Some, None, Result, Ok, Err, is_some, nat_le, if◌then◌else◌}
use Rattle.js_heap.specs.declared.value.Value.{Value}
use Rattle.js_heap.specs.declared.cell.Property.{Property}
use Rattle.js_heap.specs.declared.cell.Binding.{Binding}
use Rattle.js_heap.specs.declared.cell.Cell.{Cell}
use Rattle.js_heap.specs.declared.change.Change.{Change}
use Rattle.js_heap.specs.declared.change.Change.TheVariants as changes
use Rattle.js_heap.specs.declared.change.Counted.TheVariants as counted
use Rattle.js_heap.specs.Keys.{put_property, without_key}
use Rattle.js_heap.specs.Cells.{weight, changed, with_element, declared, bound, binding_of}
use Rattle.js_heap_memory.specs.declared.change.CellChange.{CellChange}
use Rattle.js_heap_memory.specs.declared.change.CellChange.TheVariants as code
use Rattle.js_heap_memory.specs.declared.world.Refused.{Refused}
use Rattle.js_heap_memory.specs.declared.world.Refused.TheVariants.{Effect, Full, Memory}
use Rattle.js_heap_memory.specs.Names.{name_of, Differ}

-- ---- changes

-- the change that code has, with texts for the numbers of names
abbrev pub change_of : List (List ℕ) → CellChange → Change
change_of ts (code.Put key v) = changes.Put key.now v
change_of ts (code.Remove key) = changes.Remove key.now
change_of ts (code.Element i v) = changes.Element i v
change_of ts (code.Length l) = changes.Length l
change_of ts (code.Declare n constant) = changes.Declare (name_of ts n.number) constant
change_of ts (code.Bind n v) = changes.Bind (name_of ts n.number) v

-- a name is sought by its number, so no text may stand twice
abbrev pub Distinguishes : List (List ℕ) → CellChange → Type 0
Distinguishes ts (code.Bind n v) = Differ ts
Distinguishes ts _ = Unit {0}

-- a name that it adds is a number below one
abbrev pub ChangeWithin : ℕ → CellChange → Type 0
ChangeWithin end (code.Declare n constant) = n.number < end
ChangeWithin end _ = Unit {0}

-- ---- parts of cells after a change of their kind

-- own properties after a change; None where it isn't one of them
abbrev pub changed_properties : List Property → CellChange → Option (List Property)
changed_properties ps (code.Put key v) = Some (put_property ps key.now v)
changed_properties ps (code.Remove key) = Some (without_key ps key.now)
changed_properties ps _ = None

-- elements after one of them is put in place, or behind them; None where it would stand further behind
abbrev pub element_put : List Value → ℕ → Value → Option (List Value)
element_put vs i v = if nat_le i (length vs) then Some (with_element vs i v) else None

-- elements cut to a length; None where they are fewer
abbrev pub cut_to : List Value → ℕ → Option (List Value)
cut_to vs l = if nat_le l (length vs) then Some (take l vs) else None

-- an array's elements after a change; None where it isn't one of them
abbrev pub changed_elements : List Value → CellChange → Option (List Value)
changed_elements vs (code.Element i v) = element_put vs i v
changed_elements vs (code.Length l) = cut_to vs l
changed_elements vs _ = None

-- names of which one has a value now; None where that name isn't there
abbrev pub rebound : List Binding → List ℕ → Value → Option (List Binding)
rebound bs name v = if is_some (binding_of bs name) then Some (bound bs name v) else None

-- a scope's names after a change; None where it isn't one of them
abbrev pub changed_names : List (List ℕ) → List Binding → CellChange → Option (List Binding)
changed_names ts bs (code.Declare n constant) = Some (bs ++ declared (name_of ts n.number) constant ∷ [])
changed_names ts bs (code.Bind n v) = rebound bs (name_of ts n.number) v
changed_names ts bs _ = None

-- ---- counting

-- each element and each binding counts 8 units
abbrev pub eight_each : {A : Type 0} → List A → ℕ
eight_each xs = 8 * length xs

-- the part after the change, and the units that are then left
abbrev pub Moves : {A : Type 0} → (A → ℕ) → A → Option A → ℕ → ℕ → A → Type 0
Moves weigh old None units left new = (new ≡ old) × (left ≡ units)
Moves weigh old (Some part) units left new = (new ≡ part) × (weigh part + left ≡ units + weigh old)

-- the part after the change would count more units than there are for it
abbrev pub Exceeds : {A : Type 0} → (A → ℕ) → A → Option A → ℕ → Type 0
Exceeds weigh old None units = ⊥
Exceeds weigh old (Some part) units = units + weigh old < weigh part

-- why it was refused: more units than there are, or want of memory
abbrev pub Refuses : {A : Type 0} → (A → ℕ) → A → Option A → ℕ → Refused → Type 0
Refuses weigh old part units Effect = ⊥
Refuses weigh old part units (Full counted.Cells) = ⊥
Refuses weigh old part units (Full counted.Units) = Exceeds weigh old part units
Refuses weigh old part units Memory = Unit {0}

-- what the change of a part comes to: the part after it and the units then left, or a refusal
abbrev pub Weighed : {A : Type 0} → (A → ℕ) → A → Option A → ℕ → Result ℕ Refused → A → Type 0
Weighed weigh old part units (Ok left) new = Moves weigh old part units left new
Weighed weigh old part units (Err r) new = Refuses weigh old part units r

-- ---- in a list of cells

-- the cells after the change of one of them, and the units that are then left
abbrev pub MovesAt : List Cell → ℕ → Cell → Option Cell → ℕ → ℕ → List Cell → Type 0
MovesAt cs i old None units left ds = (ds ≡ cs) × (left ≡ units)
MovesAt cs i old (Some new) units left ds = (ds ≡ slice_set cs i new) × (weight new + left ≡ units + weight old)

-- what the change of one of the cells comes to: the cells after it and the units then left, or a refusal
abbrev pub WeighedCell : List Cell → ℕ → Cell → Option Cell → ℕ → Result ℕ Refused → List Cell → Type 0
WeighedCell cs i old new units (Ok left) ds = MovesAt cs i old new units left ds
WeighedCell cs i old new units (Err r) ds = Refuses weight old new units r

-- nothing is changed, counted or refused
abbrev pub StaysAt : List Cell → ℕ → Result ℕ Refused → List Cell → Type 0
StaysAt cs units (Ok left) ds = (ds ≡ cs) × (left ≡ units)
StaysAt cs units (Err r) ds = ⊥

-- the change of the cell at a place; where there is none, nothing changes
abbrev pub WeighedAt : List Cell → ℕ → Option Cell → Change → ℕ → Result ℕ Refused → List Cell → Type 0
WeighedAt cs i None ch units r ds = StaysAt cs units r ds
WeighedAt cs i (Some old) ch units r ds = WeighedCell cs i old (changed old ch) units r ds
