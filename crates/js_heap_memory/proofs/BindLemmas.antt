-- A value for a name at its place, in a heap.
use Rattle.std.proofs.Common.{◌≡◌, ℕ, zero, suc, ◌+◌, ◌-◌, ◌*◌, ◌<◌, ◌≤◌, Bool, true, false, List, [], ◌∷◌, length, get_or, Option, Some, None, refl, sym, ap, subst, ◌∙◌, arith, if◌then◌else◌}
use Rattle.std.specs.Prelude.{slice_get, slice_set, nat_le}
use Rattle.std.specs.Option.{is_some}
use Rattle.js_heap.specs.declared.value.Value.{Value}
use Rattle.js_heap.specs.declared.value.Addr.{Addr}
use Rattle.js_heap.specs.declared.value.Addr.TheVariants.{Base, Scratch}
use Rattle.js_heap.specs.declared.cell.Binding.{Binding}
use Rattle.js_heap.specs.declared.cell.Cell.{Cell}
use Rattle.js_heap.specs.declared.cell.Cell.TheVariants as cells
use Rattle.js_heap.specs.declared.cell.ScopeKind.{ScopeKind}
use Rattle.js_heap.specs.declared.change.Change.TheVariants as changes
use Rattle.js_heap.specs.declared.change.Counted.TheVariants as counted
use Rattle.js_heap.specs.Keys.{same_units}
use Rattle.js_heap.specs.Cells.{bound, binding_of}
use Rattle.js_heap.specs.Places.{name_place}
use Rattle.js_heap.specs.World.{World, Tried, fine, full, read_cell, written_at, write_cell, replaced, room_after}
use Rattle.js_heap_memory.specs.declared.stored.Stored.{Stored}
use Rattle.js_heap_memory.specs.declared.stored.Stored.TheVariants as stored
use Rattle.js_heap_memory.specs.Names.{name_of, Differ}
use Rattle.js_heap_memory.specs.Cells.{bindings, name_text, cell_of, cells_of}
use Rattle.js_heap_memory.specs.Calls.{HasPlace}
use Rattle.js_heap_memory.specs.Places.{slot_place, with_value_at}
use Rattle.js_heap_memory.specs.Heaps.{Heap, Fit, base_world, heap_world, value_in_cell, value_in_cells}
use Rattle.js_heap_memory.proofs.ScopeLemmas.{place-names, value-at}
use Rattle.js_heap_memory.proofs.WeightLemmas.{bound-length}
use Rattle.js_heap_memory.proofs.WithinLemmas.{cells-value, value-length}

-- ---- the list of cells

pub cells-set : (cs : List Stored) (i place : ℕ) (v : Value) (d : Stored)
    → i < length cs
    → slice_set cs i (value_in_cell (get_or cs i d) place v) ≡ value_in_cells cs i place v
cells-set [] i place v d h = absurd (omega arith)
cells-set (c ∷ cs) zero place v d h = refl
cells-set (c ∷ cs) (suc i) place v d h = ap {B = List Stored} (λ ds. c ∷ ds) (cells-set cs i place v d (omega arith))

pub cells-past : (cs : List Stored) (i place : ℕ) (v : Value) → length cs ≤ i → value_in_cells cs i place v ≡ cs
cells-past [] i place v h = refl
cells-past (c ∷ cs) zero place v h = absurd (omega arith)
cells-past (c ∷ cs) (suc i) place v h = ap {B = List Stored} (λ ds. c ∷ ds) (cells-past cs i place v (omega arith))

pub ruleset cell_rules = (cells-set, cells-past)

some_if : (t : Bool) (b : Binding) (bs : List Binding) (n : List ℕ)
    → (name_place bs n < length bs → is_some (binding_of bs n) ≡ true)
    → (if t then 0 else 1 + name_place bs n) < suc (length bs)
    → is_some (if t then Some b else binding_of bs n) ≡ true
some_if true b bs n k h = refl
some_if false b bs n k h = k (omega arith)

pub binding-some : (bs : List Binding) (n : List ℕ) → name_place bs n < length bs → is_some (binding_of bs n) ≡ true
binding-some [] n h = absurd (omega arith)
binding-some (b ∷ bs) n h = some_if (same_units b.name n) b bs n (binding-some bs n) h

same_room : (w : World) (a : Addr) (c : Cell)
    → let v : World = record (replaced w a c) { room = record w.room { units = w.room.units } } in v ≡ replaced w a c
same_room w (Base i) c = refl
same_room w (Scratch i) c = refl

le_more : (x u : ℕ) → nat_le x (u + x) ≡ true
le_more x u = grind arith

less_more : (x u : ℕ) → (u + x) - x ≡ u
less_more x u = omega arith

fits : (w : World) (a : Addr) (c : Cell) (x : ℕ)
    → let t : Tried (Unit {0}) = if nat_le x (w.room.units + x) then fine tt
    (record (replaced w a c) { room = room_after w.room x x }) else full counted.Units in
    t ≡ fine tt (replaced w a c)
fits w a c x =
    rw (le_more x w.room.units, less_more x w.room.units) (ap {B = Tried (Unit {0})} (λ v. fine tt v) (same_room w a c))

written_scope : (w : World) (a : Addr) (k : ScopeKind) (name : List ℕ) (o : Option Addr) (ns : List Binding)
    (n : List ℕ) (v : Value)
    → name_place ns n < length ns
    → written_at w a (Some (cells.Bindings k name o ns)) (changes.Bind n v) ≡ fine tt
    (replaced w a (cells.Bindings k name o (bound ns n v)))
written_scope w a k name o ns n v h =
    rw (binding-some ns n h, bound-length ns n v) (fits w a (cells.Bindings k name o (bound ns n v)) (8 * length ns))

-- the names of a scope's cell
abbrev pub names_in : Cell → List Binding
names_in (cells.Bindings k name o ns) = ns
names_in c = []

abbrev pub rebound_cell : Cell → List ℕ → Value → Cell
rebound_cell (cells.Bindings k name o ns) n v = cells.Bindings k name o (bound ns n v)
rebound_cell c n v = c

scope_value : (ts : List (List ℕ)) (c : Stored) (place n : ℕ) (v : Value) (k : ScopeKind) (name : List ℕ)
    (o : Option Addr) (ns : List Binding)
    → Differ ts
    → cell_of ts c ≡ cells.Bindings k name o ns
    → place ≡ name_place ns (name_of ts n)
    → cells.Bindings k name o (bound ns (name_of ts n) v) ≡ cell_of ts (value_in_cell c place v)
scope_value ts (stored.Scope l m p ss) place n v k name o ns d e h =
    let f : bindings ts ss ≡ ns = ap names_in e in
    let g : place ≡ slot_place ss n = h ∙ sym (ap (λ bs. name_place bs (name_of ts n)) f) ∙ place-names ts ss n d in
    let r : cells.Bindings k name o (bound ns (name_of ts n) v) ≡ cells.Bindings l (name_text ts m) p
    (bound (bindings ts ss) (name_of ts n) v) = ap (λ c. rebound_cell c (name_of ts n) v) (sym e) in
    r
    ∙ ap (λ bs. cells.Bindings l (name_text ts m) p bs) (sym (value-at ts ss n v d))
    ∙ ap (λ i. cells.Bindings l (name_text ts m) p (bindings ts (with_value_at ss i v))) (sym g)
scope_value ts (stored.Object ps) place n v k name o ns d e h = absurd cc
scope_value ts (stored.Error class ps) place n v k name o ns d e h = absurd cc
scope_value ts (stored.Array vs) place n v k name o ns d e h = absurd cc
scope_value ts (stored.Text us) place n v k name o ns d e h = absurd cc
scope_value ts (stored.Function f) place n v k name o ns d e h = absurd cc

pub scope-replaced : (ts : List (List ℕ)) (cs : List Stored) (i place n : ℕ) (v : Value) (k : ScopeKind) (name : List ℕ)
    (o : Option Addr) (ns : List Binding)
    → Differ ts
    → slice_get (cells_of ts cs) i ≡ Some (cells.Bindings k name o ns)
    → place ≡ name_place ns (name_of ts n)
    → slice_set (cells_of ts cs) i (cells.Bindings k name o (bound ns (name_of ts n) v)) ≡ cells_of ts
    (value_in_cells cs i place v)
scope-replaced ts [] i place n v k name o ns d e h = refl
scope-replaced ts (c ∷ cs) zero place n v k name o ns d e h =
    let f : cell_of ts c ≡ cells.Bindings k name o ns = cc in
    ap {B = List Cell} (λ b. b ∷ cells_of ts cs) (scope_value ts c place n v k name o ns d f h)
scope-replaced ts (c ∷ cs) (suc i) place n v k name o ns d e h =
    ap {B = List Cell} (λ bs. cell_of ts c ∷ bs) (scope-replaced ts cs i place n v k name o ns d e h)

pub scope-written : (w : World) (a : Addr) (k : ScopeKind) (name : List ℕ) (o : Option Addr) (ns : List Binding)
    (place : ℕ) (n : List ℕ) (v : Value)
    → HasPlace (Some (cells.Bindings k name o ns)) place n
    → written_at w a (Some (cells.Bindings k name o ns)) (changes.Bind n v) ≡ fine tt
    (replaced w a (cells.Bindings k name o (bound ns n v)))
scope-written w a k name o ns place n v h =
    let Q : ℕ → Type 0 = λ j. j < length ns in
    written_scope w a k name o ns n v (subst Q h.0 h.1)

bind_cell : (ts : List (List ℕ)) (cs : List Stored) (l u i place n : ℕ) (v : Value) (o : Option Cell)
    → Differ ts
    → slice_get (cells_of ts cs) i ≡ o
    → HasPlace o place (name_of ts n)
    → write_cell (base_world ts cs l u) (Base i) (changes.Bind (name_of ts n) v) ≡ fine tt
    (base_world ts (value_in_cells cs i place v) l u)
bind_cell ts cs l u i place n v (Some (cells.Bindings k name p ns)) d e h =
    let w : World = base_world ts cs l u in
    let Q : ℕ → Type 0 = λ j. j < length ns in
    let P : Option Cell
    → Type 0 = λ o. written_at w (Base i) o (changes.Bind (name_of ts n) v) ≡ fine tt
    (replaced w (Base i) (cells.Bindings k name p (bound ns (name_of ts n) v))) in
    subst P (sym e) (written_scope w (Base i) k name p ns (name_of ts n) v (subst Q h.0 h.1))
    ∙ ap {B = Tried (Unit {0})} (λ b. fine tt (record w { base = b }))
    (scope-replaced ts cs i place n v k name p ns d e h.0)
bind_cell ts cs l u i place n v None d e h = absurd h
bind_cell ts cs l u i place n v (Some (cells.Object ps)) d e h = absurd h
bind_cell ts cs l u i place n v (Some (cells.Error class ps)) d e h = absurd h
bind_cell ts cs l u i place n v (Some (cells.Array vs)) d e h = absurd h
bind_cell ts cs l u i place n v (Some (cells.Text us)) d e h = absurd h
bind_cell ts cs l u i place n v (Some (cells.Function code m q s t)) d e h = absurd h

pub bind-heap : (ts : List (List ℕ)) (h g : Heap) (ds : List Stored) (i place n : ℕ) (v : Value) (a : Addr)
    → h ≡ g
    → a ≡ Base i
    → Differ ts
    → HasPlace (read_cell (heap_world ts g) a) place (name_of ts n)
    → ds ≡ value_in_cells h.cells i place v
    → write_cell (heap_world ts g) a (changes.Bind (name_of ts n) v) ≡ fine tt
    (base_world ts ds h.cells_left h.units_left)
bind-heap ts h g ds i place n v a e f d k l =
    let P : Heap
    → Type 0 = λ x. write_cell (heap_world ts x) (Base i) (changes.Bind (name_of ts n) v) ≡ fine tt
    (base_world ts ds h.cells_left h.units_left) in
    let Q : Heap → Type 0 = λ x. HasPlace (read_cell (heap_world ts x) (Base i)) place (name_of ts n) in
    let R : Addr → Type 0 = λ b. HasPlace (read_cell (heap_world ts g) b) place (name_of ts n) in
    let S : Addr
    → Type 0 = λ b. write_cell (heap_world ts g) b (changes.Bind (name_of ts n) v) ≡ fine tt
    (base_world ts ds h.cells_left h.units_left) in
    let q : HasPlace (slice_get (cells_of ts h.cells) i) place (name_of ts n) = subst Q (sym e) (subst R f k) in
    subst S (sym f)
    (subst P e
    (bind_cell ts h.cells h.cells_left h.units_left i place n v (slice_get (cells_of ts h.cells) i) d refl q
    ∙ ap {B = Tried (Unit {0})} (λ xs. fine tt (base_world ts xs h.cells_left h.units_left)) (sym l)))

pub value-fit : (cs : List Stored) (ends l i place : ℕ) (v : Value)
    → Fit cs ends l
    → Fit (value_in_cells cs i place v) ends l
value-fit cs ends l i place v f =
    record {
      within = cells-value ends cs i place v f.within;
      places = omega
          (arith, f.places, value-length cs i place v);
    }
