-- What keeps the scope around each scope older than it.
use Rattle.std.proofs.Common.{◌≡◌, ℕ, zero, suc, ◌+◌, ◌<◌, Bool, true, false, List, [], ◌∷◌, ◌++◌, length, take, drop, Option, None, Some, refl, sym, subst, arith}
use Rattle.std.specs.Prelude.{slice_set, slice_get, nat_le, nat_lt, if◌then◌else◌}
use Rattle.std.specs.Option.{is_some}
use Rattle.js_heap.specs.declared.value.Addr.{Addr}
use Rattle.js_heap.specs.declared.value.Addr.TheVariants.{Base, Scratch}
use Rattle.js_heap.specs.declared.cell.Cell.{Cell}
use Rattle.js_heap.specs.declared.cell.Cell.TheVariants as cells
use Rattle.js_heap.specs.declared.change.Change.{Change}
use Rattle.js_heap.specs.declared.change.Change.TheVariants as changes
use Rattle.js_heap.specs.declared.change.Counted.TheVariants as counted
use Rattle.js_heap.specs.BuiltIns.{built_in_cells, literal_cells, first_world}
use Rattle.js_heap.specs.Cells.{CellKind, weight, changed, with_element, binding_of, bound}
use Rattle.js_heap.specs.World.{Room, World, fine, effect, full, read_cell, is_own, next_address, with_cell, room_less, make_cell, replaced, room_after, written, written_at, write_cell}
use Rattle.js_heap.specs.Worlds.{Leads, IsScopeKind, SoundScope, SoundCell, AfterFine}
use Rattle.js_heap.proofs.KeepLemmas.{fine_if}
use Rattle.frames_scopes.specs.Chains.{IsOlder, IsWithinOlder, HasOwnCells, IsNested}

-- ---- lists of cells

get-append : (P : ℕ → Option Cell → Type 0)
    → ((i : ℕ) → P i None)
    → (cs : List Cell) (c : Cell)
    → ((i : ℕ) → P i (slice_get cs i))
    → P (length cs) (Some c)
    → (i : ℕ)
    → P i (slice_get (cs ++ c ∷ []) i)
get-append P n [] c h k zero = k
get-append P n [] c h k (suc i) = n (suc i)
get-append P n (d ∷ cs) c h k zero = h zero
get-append P n (d ∷ cs) c h k (suc i) = get-append (λ j. P (suc j)) (λ j. n (suc j)) cs c (λ j. h (suc j)) k i

get-set : (P : ℕ → Option Cell → Type 0) (cs : List Cell) (j : ℕ) (c : Cell)
    → ((i : ℕ) → P i (slice_get cs i))
    → P j (Some c)
    → (i : ℕ)
    → P i (slice_get (slice_set cs j c) i)
get-set P [] j c h k i = h i
get-set P (d ∷ cs) zero c h k zero = k
get-set P (d ∷ cs) zero c h k (suc i) = h (suc i)
get-set P (d ∷ cs) (suc j) c h k zero = h zero
get-set P (d ∷ cs) (suc j) c h k (suc i) = get-set (λ m. P (suc m)) cs j c (λ m. h (suc m)) k i

-- what is read is within the list
pub live-below : (P : CellKind → Type 0) (cs : List Cell) (i : ℕ) → Leads P (slice_get cs i) → i < length cs
live-below P [] i h = absurd h
live-below P (d ∷ cs) zero h = omega arith
live-below P (d ∷ cs) (suc i) h = let k : i < length cs = live-below P cs i h in omega arith

-- ---- making

new-base : (w : World) (o : Addr) → w.scratch ≡ [] → SoundScope w (Some o) → IsOlder o (Base (length w.base))
new-base w (Base i) e h = live-below IsScopeKind w.base i h
new-base w (Scratch i) e h =
    let P : List Cell → Type 0 = λ cs. Leads IsScopeKind (slice_get cs i) in
    let k : Leads IsScopeKind None = subst P e h in absurd k

new-scratch : (w : World) (o : Addr) → SoundScope w (Some o) → IsOlder o (Scratch (length w.scratch))
new-scratch w (Base i) h = tt
new-scratch w (Scratch i) h = live-below IsScopeKind w.scratch i h

-- a new cell's address is younger than all that it names
new-within : (w : World) (n : Option ℕ) (c : Cell)
    → HasOwnCells n w.scratch
    → SoundCell w c
    → IsWithinOlder (next_address w n) (Some c)
new-within w None (cells.Bindings kind name (Some o) names) e h = new-base w o e h.0
new-within w (Some n) (cells.Bindings kind name (Some o) names) e h = new-scratch w o h.0
new-within w n (cells.Bindings kind name None names) e h = tt
new-within w n (cells.Object ps) e h = tt
new-within w n (cells.Error class ps) e h = tt
new-within w n (cells.Array vs) e h = tt
new-within w n (cells.Text us) e h = tt
new-within w n (cells.Function code m l s t) e h = tt

made-within : (w : World) (r : Room) (n : Option ℕ) (c : Cell)
    → ((a : Addr) → IsWithinOlder a (read_cell w a))
    → IsWithinOlder (next_address w n) (Some c)
    → (a : Addr)
    → IsWithinOlder a (read_cell (record (with_cell w n c) { room = r }) a)
made-within w r None c h k (Base i) =
    get-append (λ j o. IsWithinOlder (Base j) o) (λ j. tt) w.base c (λ j. h (Base j)) k i
made-within w r None c h k (Scratch i) = h (Scratch i)
made-within w r (Some n) c h k (Base i) = h (Base i)
made-within w r (Some n) c h k (Scratch i) =
    get-append (λ j o. IsWithinOlder (Scratch j) o) (λ j. tt) w.scratch c (λ j. h (Scratch j)) k i

made-own : (w : World) (r : Room) (n : Option ℕ) (c : Cell)
    → HasOwnCells n w.scratch
    → w.start ≡ n
    → let v : World = record (with_cell w n c) { room = r } in HasOwnCells v.start v.scratch
made-own w r None c h e = let P : Option ℕ → Type 0 = λ n. HasOwnCells n w.scratch in subst P (sym e) h
made-own w r (Some n) c h e = let P : Option ℕ → Type 0 = λ m. HasOwnCells m (w.scratch ++ c ∷ []) in subst P (sym e) tt

pub making-nested : (w : World) (c : Cell) → IsNested w → SoundCell w c → AfterFine (make_cell w c) (λ a v. IsNested v)
making-nested w c h k =
    let v : World = record (with_cell w w.start c) { room = room_less w.room (weight c) } in
    let P : Addr → World → Type 0 = λ a u. IsNested u in
    fine_if (nat_lt 0 w.room.cells) counted.Cells
    (if nat_le (weight c) w.room.units then fine (next_address w w.start) v else full counted.Units) P
    (fine_if (nat_le (weight c) w.room.units) counted.Units (fine (next_address w w.start) v) P
    (record {
      outward = made-within w v.room w.start c h.outward
          (new-within w w.start c h.own k);
      own = made-own w v.room w.start c h.own refl;
    }))

-- ---- writing

-- a change leaves the scope around a scope
abbrev StaysWithin : Addr → Option Cell → Type 0
StaysWithin a None = Unit {0}
StaysWithin a (Some c) = IsWithinOlder a (Some c)

within_if : (a : Addr) (b : Bool) (d : Cell) → IsWithinOlder a (Some d) → StaysWithin a (if b then Some d else None)
within_if a true d h = h
within_if a false d h = tt

changed-within : (a : Addr) (c : Cell) (ch : Change) → IsWithinOlder a (Some c) → StaysWithin a (changed c ch)
changed-within a (cells.Object ps) (changes.Put k v) h = tt
changed-within a (cells.Object ps) (changes.Remove k) h = tt
changed-within a (cells.Object ps) (changes.Element i v) h = tt
changed-within a (cells.Object ps) (changes.Length l) h = tt
changed-within a (cells.Object ps) (changes.Declare d b) h = tt
changed-within a (cells.Object ps) (changes.Bind d v) h = tt
changed-within a (cells.Error class ps) (changes.Put k v) h = tt
changed-within a (cells.Error class ps) (changes.Remove k) h = tt
changed-within a (cells.Error class ps) (changes.Element i v) h = tt
changed-within a (cells.Error class ps) (changes.Length l) h = tt
changed-within a (cells.Error class ps) (changes.Declare d b) h = tt
changed-within a (cells.Error class ps) (changes.Bind d v) h = tt
changed-within a (cells.Array vs) (changes.Put k v) h = tt
changed-within a (cells.Array vs) (changes.Remove k) h = tt
changed-within a (cells.Array vs) (changes.Element i v) h =
    within_if a (nat_le i (length vs)) (cells.Array (with_element vs i v)) tt
changed-within a (cells.Array vs) (changes.Length l) h = within_if a (nat_le l (length vs)) (cells.Array (take l vs)) tt
changed-within a (cells.Array vs) (changes.Declare d b) h = tt
changed-within a (cells.Array vs) (changes.Bind d v) h = tt
changed-within a (cells.Text us) ch h = tt
changed-within a (cells.Function code n l s t) ch h = tt
changed-within a (cells.Bindings k n o ns) (changes.Put key v) h = tt
changed-within a (cells.Bindings k n o ns) (changes.Remove key) h = tt
changed-within a (cells.Bindings k n o ns) (changes.Element i v) h = tt
changed-within a (cells.Bindings k n o ns) (changes.Length l) h = tt
changed-within a (cells.Bindings k n None ns) (changes.Declare d b) h = tt
changed-within a (cells.Bindings k n (Some o) ns) (changes.Declare d b) h = h
changed-within a (cells.Bindings k n None ns) (changes.Bind d v) h =
    within_if a (is_some (binding_of ns d)) (cells.Bindings k n None (bound ns d v)) tt
changed-within a (cells.Bindings k n (Some o) ns) (changes.Bind d v) h =
    within_if a (is_some (binding_of ns d)) (cells.Bindings k n (Some o) (bound ns d v)) h

set-within : (w : World) (r : Room) (x : Addr) (new : Cell)
    → ((a : Addr) → IsWithinOlder a (read_cell w a))
    → IsWithinOlder x (Some new)
    → (a : Addr)
    → IsWithinOlder a (read_cell (record (replaced w x new) { room = r }) a)
set-within w r (Base j) new h k (Base i) = get-set (λ m o. IsWithinOlder (Base m) o) w.base j new (λ m. h (Base m)) k i
set-within w r (Base j) new h k (Scratch i) = h (Scratch i)
set-within w r (Scratch j) new h k (Base i) = h (Base i)
set-within w r (Scratch j) new h k (Scratch i) =
    get-set (λ m o. IsWithinOlder (Scratch m) o) w.scratch j new (λ m. h (Scratch m)) k i

none-set : (cs : List Cell) (j : ℕ) (c : Cell) → cs ≡ [] → slice_set cs j c ≡ []
none-set [] j c e = refl
none-set (d ∷ cs) j c e = cc

set-own : (w : World) (r : Room) (n : Option ℕ) (x : Addr) (new : Cell)
    → HasOwnCells n w.scratch
    → w.start ≡ n
    → let v : World = record (replaced w x new) { room = r } in HasOwnCells v.start v.scratch
set-own w r n (Base j) new h e = let P : Option ℕ → Type 0 = λ m. HasOwnCells m w.scratch in subst P (sym e) h
set-own w r None (Scratch j) new h e =
    let P : Option ℕ → Type 0 = λ m. HasOwnCells m (slice_set w.scratch j new) in
    subst P (sym e) (none-set w.scratch j new h)
set-own w r (Some n) (Scratch j) new h e =
    let P : Option ℕ → Type 0 = λ m. HasOwnCells m (slice_set w.scratch j new) in subst P (sym e) tt

written-nested : (w : World) (a : Addr) (old : Cell) (o : Option Cell)
    → IsNested w
    → StaysWithin a o
    → AfterFine (written w a old o) (λ u v. IsNested v)
written-nested w a old None h k = h
written-nested w a old (Some new) h k =
    let v : World = record (replaced w a new) { room = room_after w.room (weight old) (weight new) } in
    let P : Unit {0} → World → Type 0 = λ u x. IsNested x in
    fine_if (nat_le (weight new) (w.room.units + weight old)) counted.Units (fine tt v) P
    (record { outward = set-within w v.room a new h.outward k; own = set-own w v.room w.start a new h.own refl })

written_at-nested : (w : World) (a : Addr) (ch : Change) (o : Option Cell)
    → IsNested w
    → IsWithinOlder a o
    → AfterFine (written_at w a o ch) (λ u v. IsNested v)
written_at-nested w a ch None h k = h
written_at-nested w a ch (Some old) h k = written-nested w a old (changed old ch) h (changed-within a old ch k)

own-nested : (w : World) (a : Addr) (ch : Change) (b : Bool)
    → IsNested w
    → AfterFine (if b then written_at w a (read_cell w a) ch else effect) (λ u v. IsNested v)
own-nested w a ch true h = written_at-nested w a ch (read_cell w a) h (h.outward a)
own-nested w a ch false h = tt

pub writing-nested : (w : World) (a : Addr) (ch : Change)
    → IsNested w
    → AfterFine (write_cell w a ch) (λ u v. IsNested v)
writing-nested w a ch h = own-nested w a ch (is_own w.start a) h

-- ---- the world before the first step

-- none of these cells is a scope
abbrev AreNoScopes : List Cell → Type 0
AreNoScopes [] = Unit {0}
AreNoScopes (cells.Bindings kind name outer names ∷ cs) = ⊥
AreNoScopes (c ∷ cs) = AreNoScopes cs

no-scope : (a : Addr) (cs : List Cell) (i : ℕ) → AreNoScopes cs → IsWithinOlder a (slice_get cs i)
no-scope a [] i h = tt
no-scope a (cells.Bindings kind name outer names ∷ cs) i h = absurd h
no-scope a (cells.Object ps ∷ cs) zero h = tt
no-scope a (cells.Object ps ∷ cs) (suc i) h = no-scope a cs i h
no-scope a (cells.Error class ps ∷ cs) zero h = tt
no-scope a (cells.Error class ps ∷ cs) (suc i) h = no-scope a cs i h
no-scope a (cells.Array vs ∷ cs) zero h = tt
no-scope a (cells.Array vs ∷ cs) (suc i) h = no-scope a cs i h
no-scope a (cells.Text us ∷ cs) zero h = tt
no-scope a (cells.Text us ∷ cs) (suc i) h = no-scope a cs i h
no-scope a (cells.Function code n l s t ∷ cs) zero h = tt
no-scope a (cells.Function code n l s t ∷ cs) (suc i) h = no-scope a cs i h

literals-no-scopes : (ts : List (List ℕ)) → AreNoScopes (literal_cells ts)
literals-no-scopes [] = tt
literals-no-scopes (t ∷ ts) = literals-no-scopes ts

first-within : (ts : List (List ℕ)) (a : Addr) → IsWithinOlder a (read_cell (first_world ts) a)
first-within ts (Base zero) = tt
first-within ts (Base (suc zero)) = omega arith
first-within ts (Base (suc (suc i))) =
    no-scope (Base (suc (suc i))) (drop 2 (built_in_cells ++ literal_cells ts)) i (literals-no-scopes ts)
first-within ts (Scratch i) = tt

pub first-nested : (ts : List (List ℕ)) → IsNested (first_world ts)
first-nested ts = record { outward = first-within ts; own = refl }
