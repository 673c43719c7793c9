-- Sound worlds, and what every change of a world keeps.
use Rattle.std.specs.Prelude.{◌≡◌, ℕ, ◌≤◌, List, [], ◌∷◌, length, take, Option, Some, None}
use Rattle.js_heap.specs.declared.value.Addr.{Addr}
use Rattle.js_heap.specs.declared.value.Value.{Value}
use Rattle.js_heap.specs.declared.value.Value.TheVariants as values
use Rattle.js_heap.specs.declared.cell.Property.{Property}
use Rattle.js_heap.specs.declared.cell.Binding.{Binding}
use Rattle.js_heap.specs.declared.cell.Cell.{Cell}
use Rattle.js_heap.specs.declared.cell.Cell.TheVariants as cells
use Rattle.js_heap.specs.declared.change.Change.{Change}
use Rattle.js_heap.specs.declared.change.Change.TheVariants as changes
use Rattle.js_heap.specs.Cells.{CellKind, an_object, an_error, an_array, a_text, a_function, a_scope, kind_of, changed}
use Rattle.js_heap.specs.World.{World, Tried, fine, effect, full, read_cell}

-- ---- kinds

-- an object, an error, an array or a function
abbrev pub IsObjectKind : CellKind → Type 0
IsObjectKind an_object = Unit {0}
IsObjectKind an_error = Unit {0}
IsObjectKind an_array = Unit {0}
IsObjectKind a_text = ⊥
IsObjectKind a_function = Unit {0}
IsObjectKind a_scope = ⊥

-- a text
abbrev pub IsTextKind : CellKind → Type 0
IsTextKind k = k ≡ a_text

-- a scope
abbrev pub IsScopeKind : CellKind → Type 0
IsScopeKind k = k ≡ a_scope

-- the address is live, and its cell of such a kind
abbrev pub Leads : (CellKind → Type 0) → Option Cell → Type 0
Leads P None = ⊥
Leads P (Some c) = P (kind_of c)

-- ---- sound worlds: what a cell names is live and of the right kind

-- the text or the object that a value names is live
abbrev pub SoundValue : World → Value → Type 0
SoundValue w (values.Text a) = Leads IsTextKind (read_cell w a)
SoundValue w (values.Object a) = Leads IsObjectKind (read_cell w a)
SoundValue w _ = Unit {0}

-- a scope is live, where there is one
abbrev pub SoundScope : World → Option Addr → Type 0
SoundScope w None = Unit {0}
SoundScope w (Some a) = Leads IsScopeKind (read_cell w a)

-- where there is a value, it names what is live
abbrev pub SoundIfSome : World → Option Value → Type 0
SoundIfSome w None = Unit {0}
SoundIfSome w (Some v) = SoundValue w v

-- each of these values names what is live
abbrev pub SoundValues : World → List Value → Type 0
SoundValues w [] = Unit {0}
SoundValues w (v ∷ vs) = SoundValue w v × SoundValues w vs

-- the value of each of these properties names what is live
abbrev pub SoundProperties : World → List Property → Type 0
SoundProperties w [] = Unit {0}
SoundProperties w (p ∷ ps) = SoundValue w p.value × SoundProperties w ps

-- each of these names that has a value has one that names what is live
abbrev pub SoundNames : World → List Binding → Type 0
SoundNames w [] = Unit {0}
SoundNames w (b ∷ bs) = SoundIfSome w b.value × SoundNames w bs

-- all that a cell names is live and of the right kind
abbrev pub SoundCell : World → Cell → Type 0
SoundCell w (cells.Object ps) = SoundProperties w ps
SoundCell w (cells.Error class ps) = SoundProperties w ps
SoundCell w (cells.Array vs) = SoundValues w vs
SoundCell w (cells.Text us) = Unit {0}
SoundCell w (cells.Function code n l s t) = SoundScope w s × SoundValue w t
SoundCell w (cells.Bindings k n o ns) = SoundScope w o × SoundNames w ns

-- all that these cells name is live and of the right kind
abbrev pub SoundCells : World → List Cell → Type 0
SoundCells w [] = Unit {0}
SoundCells w (c ∷ cs) = SoundCell w c × SoundCells w cs

-- all that the cells of a world name is live in it and of the right kind
pub record IsSound (w : World) : Type 0 where
  pub base_cells : SoundCells w w.base
  pub scratch_cells : SoundCells w w.scratch

-- the value that a change puts into a cell names what is live
abbrev pub SoundChange : World → Change → Type 0
SoundChange w (changes.Put k v) = SoundValue w v
SoundChange w (changes.Element i v) = SoundValue w v
SoundChange w (changes.Bind n v) = SoundValue w v
SoundChange w _ = Unit {0}

-- ---- what stays

-- a live address stays live, with a cell of the same kind
abbrev pub KindStays : Option Cell → Option Cell → Type 0
KindStays None after = Unit {0}
KindStays (Some c) None = ⊥
KindStays (Some c) (Some d) = kind_of d ≡ kind_of c

-- every live cell of a world is live in a later one, with its kind
abbrev pub Later : World → World → Type 0
Later w v = (a : Addr) → KindStays (read_cell w a) (read_cell v a)

-- in an evaluation, the program's cells and those of earlier evaluations stay as they are
abbrev pub OthersStay : Option ℕ → World → World → Type 0
OthersStay None w v = Unit {0}
OthersStay (Some n) w v =
    (v.base ≡ w.base) × (n ≤ length w.scratch → (n ≤ length v.scratch) × (take n v.scratch ≡ take n w.scratch))

-- what every change of a world keeps: which cells may be written, each cell's kind, and in an evaluation the cells of
-- others
pub record Keeps (w v : World) : Type 0 where
  pub start : v.start ≡ w.start
  pub kinds : (a : Addr) → KindStays (read_cell w a) (read_cell v a)
  pub others : OthersStay w.start w v

-- a live cell stays as it is
abbrev pub CellStays : Option Cell → Option Cell → Type 0
CellStays None after = Unit {0}
CellStays (Some c) after = after ≡ Some c

-- one cell more: it is read at an address that was none, and every live cell stays as it is
pub record HasMadeCell (w : World) (c : Cell) (a : Addr) (v : World) : Type 0 where
  pub fresh : read_cell w a ≡ None
  pub made : read_cell v a ≡ Some c
  pub others : (b : Addr) → CellStays (read_cell w b) (read_cell v b)

-- a cell after its change, or as it was where the change is none
abbrev pub cell_or : Option Cell → Cell → Cell
cell_or None old = old
cell_or (Some new) old = new

-- what is read after a change; what is no change of the cell's kind changes nothing
abbrev pub read_after : Option Cell → Change → Option Cell
read_after None ch = None
read_after (Some c) ch = Some (cell_or (changed c ch) c)

-- one cell changed: all others stay as they are
pub record HasWritten (w : World) (a : Addr) (ch : Change) (v : World) : Type 0 where
  pub cell : read_cell v a ≡ read_after (read_cell w a) ch
  pub others : (b : Addr) → (b ≡ a → ⊥) → read_cell v b ≡ read_cell w b

-- what holds of the world after a call that wasn't refused
abbrev pub AfterFine : {A : Type 0} → Tried A → (A → World → Type 0) → Type 0
AfterFine (fine a w) P = P a w
AfterFine effect P = Unit {0}
AfterFine (full what) P = Unit {0}
