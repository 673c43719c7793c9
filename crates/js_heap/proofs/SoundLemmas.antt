-- What keeps a world sound.
use Rattle.std.proofs.Common.{◌≡◌, ℕ, zero, suc, ◌+◌, Bool, true, false, List, [], ◌∷◌, ◌++◌, length, take, Option, None, Some, refl, sym, ap, subst}
use Rattle.std.specs.Prelude.{slice_set, slice_get, nat_le, nat_lt, if◌then◌else◌}
use Rattle.std.specs.Option.{is_some}
use Rattle.js_heap.specs.declared.value.Addr.{Addr}
use Rattle.js_heap.specs.declared.value.Addr.TheVariants.{Base, Scratch}
use Rattle.js_heap.specs.declared.value.Value.{Value}
use Rattle.js_heap.specs.declared.value.Value.TheVariants as values
use Rattle.js_heap.specs.declared.cell.Property.{Property}
use Rattle.js_heap.specs.declared.cell.Binding.{Binding}
use Rattle.js_heap.specs.declared.cell.Cell.{Cell}
use Rattle.js_heap.specs.declared.cell.Cell.TheVariants as cells
use Rattle.js_heap.specs.declared.change.Change.{Change}
use Rattle.js_heap.specs.declared.change.Change.TheVariants as changes
use Rattle.js_heap.specs.declared.change.Counted.TheVariants as counted
use Rattle.js_heap.specs.Keys.{same_units, has_key, with_value, stands_before, index_of_key, placed, assigned, put_property, without_key}
use Rattle.js_heap.specs.Cells.{CellKind, kind_of, weight, changed, with_element, binding_of, bound, declared}
use Rattle.js_heap.specs.World.{Room, World, fine, effect, full, read_cell, is_own, next_address, with_cell, room_less, make_cell, replaced, room_after, written, written_at, write_cell}
use Rattle.js_heap.specs.Worlds.{IsObjectKind, IsTextKind, IsScopeKind, Leads, SoundValue, SoundScope, SoundIfSome, SoundValues, SoundProperties, SoundNames, SoundCell, SoundCells, IsSound, SoundChange, KindStays, AfterFine, Later}
use Rattle.js_heap.proofs.MapLemmas.{get-last}
use Rattle.js_heap.proofs.KeepLemmas.{fine_if, made_kinds, set_kinds, changed-kind, KindKept}

-- ---- what a later world has

pub leads-stays : (P : CellKind → Type 0) (o p : Option Cell) → KindStays o p → Leads P o → Leads P p
leads-stays P None p h k = absurd k
leads-stays P (Some c) None h k = absurd h
leads-stays P (Some c) (Some d) h k = subst P (sym h) k

pub sound-value : (w v : World) → Later w v → (u : Value) → SoundValue w u → SoundValue v u
sound-value w v l values.Undefined h = tt
sound-value w v l values.Null h = tt
sound-value w v l (values.Bool b) h = tt
sound-value w v l (values.Number z) h = tt
sound-value w v l (values.Text a) h = leads-stays IsTextKind (read_cell w a) (read_cell v a) (l a) h
sound-value w v l (values.Object a) h = leads-stays IsObjectKind (read_cell w a) (read_cell v a) (l a) h

pub sound-scope : (w v : World) → Later w v → (o : Option Addr) → SoundScope w o → SoundScope v o
sound-scope w v l None h = tt
sound-scope w v l (Some a) h = leads-stays IsScopeKind (read_cell w a) (read_cell v a) (l a) h

pub sound_if_some : (w v : World) → Later w v → (o : Option Value) → SoundIfSome w o → SoundIfSome v o
sound_if_some w v l None h = tt
sound_if_some w v l (Some u) h = sound-value w v l u h

pub sound_values : (w v : World) → Later w v → (us : List Value) → SoundValues w us → SoundValues v us
sound_values w v l [] h = tt
sound_values w v l (u ∷ us) h = (sound-value w v l u h.0, sound_values w v l us h.1)

pub sound_properties : (w v : World) → Later w v → (ps : List Property) → SoundProperties w ps → SoundProperties v ps
sound_properties w v l [] h = tt
sound_properties w v l (p ∷ ps) h = (sound-value w v l p.value h.0, sound_properties w v l ps h.1)

pub sound_names : (w v : World) → Later w v → (bs : List Binding) → SoundNames w bs → SoundNames v bs
sound_names w v l [] h = tt
sound_names w v l (b ∷ bs) h = (sound_if_some w v l b.value h.0, sound_names w v l bs h.1)

pub sound_cell : (w v : World) → Later w v → (c : Cell) → SoundCell w c → SoundCell v c
sound_cell w v l (cells.Object ps) h = sound_properties w v l ps h
sound_cell w v l (cells.Error class ps) h = sound_properties w v l ps h
sound_cell w v l (cells.Array vs) h = sound_values w v l vs h
sound_cell w v l (cells.Text us) h = tt
sound_cell w v l (cells.Function code n k s t) h = (sound-scope w v l s h.0, sound-value w v l t h.1)
sound_cell w v l (cells.Bindings k n o ns) h = (sound-scope w v l o h.0, sound_names w v l ns h.1)

pub sound_cells : (w v : World) → Later w v → (cs : List Cell) → SoundCells w cs → SoundCells v cs
sound_cells w v l [] h = tt
sound_cells w v l (c ∷ cs) h = (sound_cell w v l c h.0, sound_cells w v l cs h.1)

-- ---- lists of cells

pub cells-append : (w : World) (cs : List Cell) (c : Cell)
    → SoundCells w cs
    → SoundCell w c
    → SoundCells w (cs ++ c ∷ [])
cells-append w [] c h k = (k, tt)
cells-append w (d ∷ cs) c h k = (h.0, cells-append w cs c h.1 k)

pub cells-set : (w : World) (cs : List Cell) (i : ℕ) (c : Cell)
    → SoundCells w cs
    → SoundCell w c
    → SoundCells w (slice_set cs i c)
cells-set w [] i c h k = tt
cells-set w (d ∷ cs) zero c h k = (k, h.1)
cells-set w (d ∷ cs) (suc i) c h k = (h.0, cells-set w cs i c h.1 k)

pub cell-get : (w : World) (cs : List Cell) (i : ℕ) (c : Cell)
    → slice_get cs i ≡ Some c
    → SoundCells w cs
    → SoundCell w c
cell-get w [] i c e h = cc
cell-get w (d ∷ cs) zero c e h = let f : d ≡ c = cc in let P : Cell → Type 0 = λ x. SoundCell w x in subst P f h.0
cell-get w (d ∷ cs) (suc i) c e h = cell-get w cs i c e h.1

pub read-sound : (w : World) (a : Addr) (c : Cell) → read_cell w a ≡ Some c → IsSound w → SoundCell w c
read-sound w (Base i) c e h = cell-get w w.base i c e h.base_cells
read-sound w (Scratch i) c e h = cell-get w w.scratch i c e h.scratch_cells

-- ---- making

pub made_sound : (w : World) (r : Room) (o : Option ℕ) (c : Cell)
    → IsSound w
    → SoundCell w c
    → IsSound (record (with_cell w o c) { room = r })
made_sound w r None c h k =
    let v : World = record (with_cell w None c) { room = r } in
    let l : Later w v = made_kinds w r None c in
    record {
      base_cells = cells-append v w.base c (sound_cells w v l w.base h.base_cells)
          (sound_cell w v l c k);
      scratch_cells = sound_cells w v l w.scratch h.scratch_cells;
    }
made_sound w r (Some n) c h k =
    let v : World = record (with_cell w (Some n) c) { room = r } in
    let l : Later w v = made_kinds w r (Some n) c in
    record {
      base_cells = sound_cells w v l w.base h.base_cells;
      scratch_cells = cells-append v w.scratch c
          (sound_cells w v l w.scratch h.scratch_cells) (sound_cell w v l c k);
    }

pub making-sound : (w : World) (c : Cell) → IsSound w → SoundCell w c → AfterFine (make_cell w c) (λ a v. IsSound v)
making-sound w c h k =
    let v : World = record (with_cell w w.start c) { room = room_less w.room (weight c) } in
    let P : Addr → World → Type 0 = λ a u. IsSound u in
    fine_if (nat_lt 0 w.room.cells) counted.Cells
    (if nat_le (weight c) w.room.units then fine (next_address w w.start) v else full counted.Units) P
    (fine_if (nat_le (weight c) w.room.units) counted.Units (fine (next_address w w.start) v) P
    (made_sound w v.room w.start c h k))

-- ---- changes

pub put_value_if : (w : World) (b : Bool) (p : Property) (ps : List Property) (key : List ℕ) (v : Value)
    → SoundProperties w (p ∷ ps)
    → SoundValue w v
    → SoundProperties w (with_value ps key v)
    → SoundProperties w (if b then record p { value = v } ∷ ps else p ∷ with_value ps key v)
put_value_if w true p ps key v h k rest = (k, h.1)
put_value_if w false p ps key v h k rest = (h.0, rest)

pub put_value : (w : World) (ps : List Property) (key : List ℕ) (v : Value)
    → SoundProperties w ps
    → SoundValue w v
    → SoundProperties w (with_value ps key v)
put_value w [] key v h k = tt
put_value w (p ∷ ps) key v h k = put_value_if w (same_units p.key key) p ps key v h k (put_value w ps key v h.1 k)

pub place_new_if : (w : World) (b : Bool) (p : Property) (ps : List Property) (new : Property)
    → SoundProperties w (p ∷ ps)
    → SoundValue w new.value
    → SoundProperties w (placed ps new)
    → SoundProperties w (if b then new ∷ p ∷ ps else p ∷ placed ps new)
place_new_if w true p ps new h k rest = (k, h)
place_new_if w false p ps new h k rest = (h.0, rest)

pub place_new : (w : World) (ps : List Property) (new : Property)
    → SoundProperties w ps
    → SoundValue w new.value
    → SoundProperties w (placed ps new)
place_new w [] new h k = (k, tt)
place_new w (p ∷ ps) new h k =
    place_new_if w (stands_before (index_of_key new.key) (index_of_key p.key)) p ps new h k (place_new w ps new h.1 k)

pub put_sound_if : (w : World) (b : Bool) (ps : List Property) (key : List ℕ) (v : Value)
    → SoundProperties w ps
    → SoundValue w v
    → SoundProperties w (if b then with_value ps key v else placed ps (assigned key v))
put_sound_if w true ps key v h k = put_value w ps key v h k
put_sound_if w false ps key v h k = place_new w ps (assigned key v) h k

pub put_sound : (w : World) (ps : List Property) (key : List ℕ) (v : Value)
    → SoundProperties w ps
    → SoundValue w v
    → SoundProperties w (put_property ps key v)
put_sound w ps key v h k = put_sound_if w (has_key ps key) ps key v h k

pub remove_if : (w : World) (b : Bool) (p : Property) (ps : List Property) (key : List ℕ)
    → SoundProperties w (p ∷ ps)
    → SoundProperties w (without_key ps key)
    → SoundProperties w (if b then ps else p ∷ without_key ps key)
remove_if w true p ps key h rest = h.1
remove_if w false p ps key h rest = (h.0, rest)

pub remove_sound : (w : World) (ps : List Property) (key : List ℕ)
    → SoundProperties w ps
    → SoundProperties w (without_key ps key)
remove_sound w [] key h = tt
remove_sound w (p ∷ ps) key h = remove_if w (same_units p.key key) p ps key h (remove_sound w ps key h.1)

pub values-set : (w : World) (vs : List Value) (i : ℕ) (v : Value)
    → SoundValues w vs
    → SoundValue w v
    → SoundValues w (slice_set vs i v)
values-set w [] i v h k = tt
values-set w (u ∷ vs) zero v h k = (k, h.1)
values-set w (u ∷ vs) (suc i) v h k = (h.0, values-set w vs i v h.1 k)

pub values-append : (w : World) (vs : List Value) (v : Value)
    → SoundValues w vs
    → SoundValue w v
    → SoundValues w (vs ++ v ∷ [])
values-append w [] v h k = (k, tt)
values-append w (u ∷ vs) v h k = (h.0, values-append w vs v h.1 k)

pub values-take : (w : World) (vs : List Value) (l : ℕ) → SoundValues w vs → SoundValues w (take l vs)
values-take w vs zero h = tt
values-take w [] (suc l) h = tt
values-take w (v ∷ vs) (suc l) h = (h.0, values-take w vs l h.1)

pub element_if : (w : World) (b : Bool) (vs : List Value) (i : ℕ) (v : Value)
    → SoundValues w vs
    → SoundValue w v
    → SoundValues w (if b then slice_set vs i v else vs ++ v ∷ [])
element_if w true vs i v h k = values-set w vs i v h k
element_if w false vs i v h k = values-append w vs v h k

pub names-append : (w : World) (bs : List Binding) (d : List ℕ) (constant : Bool)
    → SoundNames w bs
    → SoundNames w (bs ++ declared d constant ∷ [])
names-append w [] d constant h = (tt, tt)
names-append w (b ∷ bs) d constant h = (h.0, names-append w bs d constant h.1)

pub bind_if : (w : World) (t : Bool) (b : Binding) (bs : List Binding) (n : List ℕ) (v : Value)
    → SoundNames w (b ∷ bs)
    → SoundValue w v
    → SoundNames w (bound bs n v)
    → SoundNames w (if t then record b { value = Some v } ∷ bs else b ∷ bound bs n v)
bind_if w true b bs n v h k rest = (k, h.1)
bind_if w false b bs n v h k rest = (h.0, rest)

-- the cell after a change is sound
pub bind_sound : (w : World) (bs : List Binding) (n : List ℕ) (v : Value)
    → SoundNames w bs
    → SoundValue w v
    → SoundNames w (bound bs n v)
bind_sound w [] n v h k = tt
bind_sound w (b ∷ bs) n v h k = bind_if w (same_units b.name n) b bs n v h k (bind_sound w bs n v h.1 k)

abbrev pub SoundSome : World → Option Cell → Type 0
SoundSome w None = Unit {0}
SoundSome w (Some c) = SoundCell w c

pub some_if : (w : World) (b : Bool) (c : Cell) → SoundCell w c → SoundSome w (if b then Some c else None)
some_if w true c h = h
some_if w false c h = tt

pub changed-sound : (w : World) (c : Cell) (ch : Change) → SoundCell w c → SoundChange w ch → SoundSome w (changed c ch)
changed-sound w (cells.Object ps) (changes.Put k v) h s = put_sound w ps k v h s
changed-sound w (cells.Object ps) (changes.Remove k) h s = remove_sound w ps k h
changed-sound w (cells.Object ps) (changes.Element i v) h s = tt
changed-sound w (cells.Object ps) (changes.Length l) h s = tt
changed-sound w (cells.Object ps) (changes.Declare d b) h s = tt
changed-sound w (cells.Object ps) (changes.Bind d v) h s = tt
changed-sound w (cells.Error class ps) (changes.Put k v) h s = put_sound w ps k v h s
changed-sound w (cells.Error class ps) (changes.Remove k) h s = remove_sound w ps k h
changed-sound w (cells.Error class ps) (changes.Element i v) h s = tt
changed-sound w (cells.Error class ps) (changes.Length l) h s = tt
changed-sound w (cells.Error class ps) (changes.Declare d b) h s = tt
changed-sound w (cells.Error class ps) (changes.Bind d v) h s = tt
changed-sound w (cells.Array vs) (changes.Put k v) h s = tt
changed-sound w (cells.Array vs) (changes.Remove k) h s = tt
changed-sound w (cells.Array vs) (changes.Element i v) h s =
    some_if w (nat_le i (length vs)) (cells.Array (with_element vs i v))
    (element_if w (nat_lt i (length vs)) vs i v h s)
changed-sound w (cells.Array vs) (changes.Length l) h s =
    some_if w (nat_le l (length vs)) (cells.Array (take l vs)) (values-take w vs l h)
changed-sound w (cells.Array vs) (changes.Declare d b) h s = tt
changed-sound w (cells.Array vs) (changes.Bind d v) h s = tt
changed-sound w (cells.Text us) ch h s = tt
changed-sound w (cells.Function code n l sc t) ch h s = tt
changed-sound w (cells.Bindings k n o ns) (changes.Put key v) h s = tt
changed-sound w (cells.Bindings k n o ns) (changes.Remove key) h s = tt
changed-sound w (cells.Bindings k n o ns) (changes.Element i v) h s = tt
changed-sound w (cells.Bindings k n o ns) (changes.Length l) h s = tt
changed-sound w (cells.Bindings k n o ns) (changes.Declare d b) h s = (h.0, names-append w ns d b h.1)
changed-sound w (cells.Bindings k n o ns) (changes.Bind d v) h s =
    some_if w (is_some (binding_of ns d)) (cells.Bindings k n o (bound ns d v)) (h.0, bind_sound w ns d v h.1 s)

-- ---- writing

pub set_sound : (w : World) (r : Room) (a : Addr) (old new : Cell)
    → read_cell w a ≡ Some old
    → kind_of new ≡ kind_of old
    → IsSound w
    → SoundCell w new
    → IsSound (record (replaced w a new) { room = r })
set_sound w r (Base j) old new e k h s =
    let v : World = record (replaced w (Base j) new) { room = r } in
    let l : Later w v = set_kinds w r (Base j) old new e k in
    record {
      base_cells = cells-set v w.base j new (sound_cells w v l w.base h.base_cells)
          (sound_cell w v l new s);
      scratch_cells = sound_cells w v l w.scratch h.scratch_cells;
    }
set_sound w r (Scratch j) old new e k h s =
    let v : World = record (replaced w (Scratch j) new) { room = r } in
    let l : Later w v = set_kinds w r (Scratch j) old new e k in
    record {
      base_cells = sound_cells w v l w.base h.base_cells;
      scratch_cells = cells-set v w.scratch j new
          (sound_cells w v l w.scratch h.scratch_cells) (sound_cell w v l new s);
    }

pub written_sound : (w : World) (a : Addr) (old : Cell) (o : Option Cell)
    → read_cell w a ≡ Some old
    → KindKept old o
    → IsSound w
    → SoundSome w o
    → AfterFine (written w a old o) (λ u v. IsSound v)
written_sound w a old None e k h s = h
written_sound w a old (Some new) e k h s =
    let v : World = record (replaced w a new) { room = room_after w.room (weight old) (weight new) } in
    let P : Unit {0} → World → Type 0 = λ u x. IsSound x in
    fine_if (nat_le (weight new) (w.room.units + weight old)) counted.Units (fine tt v) P
    (set_sound w v.room a old new e k h s)

pub written_at_sound : (w : World) (a : Addr) (ch : Change) (o : Option Cell)
    → read_cell w a ≡ o
    → IsSound w
    → SoundChange w ch
    → AfterFine (written_at w a o ch) (λ u v. IsSound v)
written_at_sound w a ch None e h s = h
written_at_sound w a ch (Some old) e h s =
    written_sound w a old (changed old ch) e (changed-kind old ch) h (changed-sound w old ch (read-sound w a old e h) s)

pub own_sound : (w : World) (a : Addr) (ch : Change) (b : Bool)
    → IsSound w
    → SoundChange w ch
    → AfterFine (if b then written_at w a (read_cell w a) ch else effect) (λ u v. IsSound v)
own_sound w a ch true h s = written_at_sound w a ch (read_cell w a) refl h s
own_sound w a ch false h s = tt

pub writing-sound : (w : World) (a : Addr) (ch : Change)
    → IsSound w
    → SoundChange w ch
    → AfterFine (write_cell w a ch) (λ u v. IsSound v)
writing-sound w a ch h s = own_sound w a ch (is_own w.start a) h s

-- ---- where a new cell is

pub leads-to : (c : Cell) (o : Option Cell) → o ≡ Some c → Leads (λ k. k ≡ kind_of c) o
leads-to c None e = cc
leads-to c (Some d) e = let f : d ≡ c = cc in ap kind_of f

made_leads : (w : World) (r : Room) (o : Option ℕ) (c : Cell)
    → Leads (λ k. k ≡ kind_of c) (read_cell (record (with_cell w o c) { room = r }) (next_address w o))
made_leads w r None c = leads-to c (slice_get (w.base ++ c ∷ []) (length w.base)) (get-last w.base c)
made_leads w r (Some n) c = leads-to c (slice_get (w.scratch ++ c ∷ []) (length w.scratch)) (get-last w.scratch c)

pub making-leads : (w : World) (c : Cell)
    → AfterFine (make_cell w c) (λ a v. Leads (λ k. k ≡ kind_of c) (read_cell v a))
making-leads w c =
    let v : World = record (with_cell w w.start c) { room = room_less w.room (weight c) } in
    let P : Addr → World → Type 0 = λ a u. Leads (λ k. k ≡ kind_of c) (read_cell u a) in
    fine_if (nat_lt 0 w.room.cells) counted.Cells
    (if nat_le (weight c) w.room.units then fine (next_address w w.start) v else full counted.Units) P
    (fine_if (nat_le (weight c) w.room.units) counted.Units (fine (next_address w w.start) v) P
    (made_leads w v.room w.start c))
