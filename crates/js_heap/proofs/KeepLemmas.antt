-- What making and writing leave as it is.
use Rattle.std.proofs.Common.{◌≡◌, ℕ, zero, suc, ◌+◌, Bool, true, false, List, [], ◌∷◌, ◌++◌, length, take, Option, None, Some, refl, sym, ap, ◌∙◌, subst, arith, length-append}
use Rattle.std.proofs.lemmas.List.{take-append-le, take-set-le, length-set}
use Rattle.std.proofs.lemmas.Bool.{leb-true}
use Rattle.std.specs.Prelude.{slice_set, slice_get, nat_le, nat_lt, if◌then◌else◌}
use Rattle.std.specs.Option.{is_some}
use Rattle.js_heap.specs.declared.value.Addr.{Addr}
use Rattle.js_heap.specs.declared.value.Addr.TheVariants.{Base, Scratch}
use Rattle.js_heap.specs.declared.cell.Cell.{Cell}
use Rattle.js_heap.specs.declared.cell.Cell.TheVariants as cells
use Rattle.js_heap.specs.declared.change.Change.{Change}
use Rattle.js_heap.specs.declared.change.Change.TheVariants as changes
use Rattle.js_heap.specs.declared.change.Counted.{Counted}
use Rattle.js_heap.specs.declared.change.Counted.TheVariants as counted
use Rattle.js_heap.specs.Cells.{kind_of, weight, changed, with_element, binding_of}
use Rattle.js_heap.specs.World.{Room, World, Tried, fine, effect, full, read_cell, is_own, next_address, with_cell, room_less, make_cell, replaced, room_after, written, written_at, write_cell}
use Rattle.js_heap.specs.Worlds.{KindStays, OthersStay, Keeps, AfterFine}

-- ---- kinds of cells in lists

pub stays-same : (o : Option Cell) → KindStays o o
stays-same None = tt
stays-same (Some c) = refl

pub stays-append : (cs : List Cell) (c : Cell) (i : ℕ) → KindStays (slice_get cs i) (slice_get (cs ++ c ∷ []) i)
stays-append [] c i = tt
stays-append (d ∷ cs) c zero = refl
stays-append (d ∷ cs) c (suc i) = stays-append cs c i

pub stays-set : (cs : List Cell) (j : ℕ) (old new : Cell)
    → slice_get cs j ≡ Some old
    → kind_of new ≡ kind_of old
    → (i : ℕ)
    → KindStays (slice_get cs i) (slice_get (slice_set cs j new) i)
stays-set [] j old new e k i = tt
stays-set (d ∷ cs) zero old new e k zero = let f : d ≡ old = cc in k ∙ ap kind_of (sym f)
stays-set (d ∷ cs) zero old new e k (suc i) = stays-same (slice_get cs i)
stays-set (d ∷ cs) (suc j) old new e k zero = refl
stays-set (d ∷ cs) (suc j) old new e k (suc i) = stays-set cs j old new e k i

pub stays-trans : (o p q : Option Cell) → KindStays o p → KindStays p q → KindStays o q
stays-trans None p q h k = tt
stays-trans (Some c) None q h k = absurd h
stays-trans (Some c) (Some d) None h k = absurd k
stays-trans (Some c) (Some d) (Some e) h k = k ∙ h

-- ---- refusals

pub fine_if : {A : Type 0} (b : Bool) (what : Counted) (t : Tried A) (P : A → World → Type 0)
    → AfterFine t P
    → AfterFine (if b then t else full what) P
fine_if true what t P h = h
fine_if false what t P h = tt

-- ---- nothing changed

pub keeps-others : (o : Option ℕ) (w : World) → OthersStay o w w
keeps-others None w = tt
keeps-others (Some n) w = (refl, λ h. (h, refl))

pub keeps-same : (w : World) → Keeps w w
keeps-same w = record { start = refl; kinds = λ a. stays-same (read_cell w a); others = keeps-others w.start w }

pub others-trans : (o : Option ℕ) (u v w : World) → OthersStay o u v → OthersStay o v w → OthersStay o u w
others-trans None u v w h k = tt
others-trans (Some n) u v w h k =
    (k.0 ∙ h.0, λ long. let hv = h.1 long in let kw = k.1 hv.0 in (kw.0, kw.1 ∙ hv.1))

pub keeps-trans : (u v w : World) → Keeps u v → Keeps v w → Keeps u w
keeps-trans u v w h k = record {
  start = k.start ∙ h.start;
  kinds = λ a. stays-trans (read_cell u a) (read_cell v a) (read_cell w a) (h.kinds a) (k.kinds a);
  others =
      let P : Option ℕ → Type 0 = λ o. OthersStay o v w in
      others-trans u.start u v w h.others (subst P h.start k.others);
}

-- ---- making

pub made_kinds : (w : World) (r : Room) (o : Option ℕ) (c : Cell) (a : Addr)
    → KindStays (read_cell w a) (read_cell (record (with_cell w o c) { room = r }) a)
made_kinds w r None c (Base i) = stays-append w.base c i
made_kinds w r None c (Scratch i) = stays-same (slice_get w.scratch i)
made_kinds w r (Some n) c (Base i) = stays-same (slice_get w.base i)
made_kinds w r (Some n) c (Scratch i) = stays-append w.scratch c i

pub made_others : (w : World) (r : Room) (o : Option ℕ) (c : Cell)
    → OthersStay o w (record (with_cell w o c) { room = r })
made_others w r None c = tt
made_others w r (Some n) c =
    (refl, λ h. (omega (arith, length-append w.scratch (c ∷ [])), take-append-le n w.scratch (c ∷ []) h))

pub made_start : (w : World) (r : Room) (o : Option ℕ) (c : Cell)
    → let v : World = record (with_cell w o c) { room = r } in v.start ≡ w.start
made_start w r None c = refl
made_start w r (Some n) c = refl

pub making-keeps : (w : World) (c : Cell) → AfterFine (make_cell w c) (λ a v. Keeps w v)
making-keeps w c =
    let v : World = record (with_cell w w.start c) { room = room_less w.room (weight c) } in
    let P : Addr → World → Type 0 = λ a u. Keeps w u in
    fine_if (nat_lt 0 w.room.cells) counted.Cells
    (if nat_le (weight c) w.room.units then fine (next_address w w.start) v else full counted.Units) P
    (fine_if (nat_le (weight c) w.room.units) counted.Units (fine (next_address w w.start) v) P
    (record {
      start = made_start w v.room w.start c;
      kinds = made_kinds w v.room w.start c;
      others = made_others w v.room w.start c;
    }))

-- ---- writing

-- a change leaves a cell's kind
abbrev pub KindKept : Cell → Option Cell → Type 0
KindKept c None = Unit {0}
KindKept c (Some d) = kind_of d ≡ kind_of c

pub kept_if : (b : Bool) (c d : Cell) → kind_of d ≡ kind_of c → KindKept c (if b then Some d else None)
kept_if true c d e = e
kept_if false c d e = tt

pub changed-kind : (c : Cell) (ch : Change) → KindKept c (changed c ch)
changed-kind (cells.Object ps) (changes.Put k v) = refl
changed-kind (cells.Object ps) (changes.Remove k) = refl
changed-kind (cells.Object ps) (changes.Element i v) = tt
changed-kind (cells.Object ps) (changes.Length l) = tt
changed-kind (cells.Object ps) (changes.Declare d b) = tt
changed-kind (cells.Object ps) (changes.Bind d v) = tt
changed-kind (cells.Error class ps) (changes.Put k v) = refl
changed-kind (cells.Error class ps) (changes.Remove k) = refl
changed-kind (cells.Error class ps) (changes.Element i v) = tt
changed-kind (cells.Error class ps) (changes.Length l) = tt
changed-kind (cells.Error class ps) (changes.Declare d b) = tt
changed-kind (cells.Error class ps) (changes.Bind d v) = tt
changed-kind (cells.Array vs) (changes.Put k v) = tt
changed-kind (cells.Array vs) (changes.Remove k) = tt
changed-kind (cells.Array vs) (changes.Element i v) =
    kept_if (nat_le i (length vs)) (cells.Array vs) (cells.Array (with_element vs i v)) refl
changed-kind (cells.Array vs) (changes.Length l) =
    kept_if (nat_le l (length vs)) (cells.Array vs) (cells.Array (take l vs)) refl
changed-kind (cells.Array vs) (changes.Declare d b) = tt
changed-kind (cells.Array vs) (changes.Bind d v) = tt
changed-kind (cells.Text us) ch = tt
changed-kind (cells.Function code n l s t) ch = tt
changed-kind (cells.Bindings k n o ns) (changes.Put key v) = tt
changed-kind (cells.Bindings k n o ns) (changes.Remove key) = tt
changed-kind (cells.Bindings k n o ns) (changes.Element i v) = tt
changed-kind (cells.Bindings k n o ns) (changes.Length l) = tt
changed-kind (cells.Bindings k n o ns) (changes.Declare d b) = refl
changed-kind (cells.Bindings k n o ns) (changes.Bind d v) =
    kept_if (is_some (binding_of ns d)) (cells.Bindings k n o ns) (cells.Bindings k n o _) refl

pub set_kinds : (w : World) (r : Room) (a : Addr) (old new : Cell)
    → read_cell w a ≡ Some old
    → kind_of new ≡ kind_of old
    → (b : Addr)
    → KindStays (read_cell w b) (read_cell (record (replaced w a new) { room = r }) b)
set_kinds w r (Base j) old new e k (Base i) = stays-set w.base j old new e k i
set_kinds w r (Base j) old new e k (Scratch i) = stays-same (slice_get w.scratch i)
set_kinds w r (Scratch j) old new e k (Base i) = stays-same (slice_get w.base i)
set_kinds w r (Scratch j) old new e k (Scratch i) = stays-set w.scratch j old new e k i

pub set_others : (o : Option ℕ) (w : World) (r : Room) (a : Addr) (new : Cell)
    → is_own o a ≡ true
    → OthersStay o w (record (replaced w a new) { room = r })
set_others None w r (Base j) new own = tt
set_others None w r (Scratch j) new own = tt
set_others (Some n) w r (Base j) new own = cc
set_others (Some n) w r (Scratch j) new own =
    (refl, λ h. (omega (arith, length-set w.scratch j new), take-set-le n w.scratch j new (leb-true n j own)))

pub set_start : (w : World) (r : Room) (a : Addr) (new : Cell)
    → let v : World = record (replaced w a new) { room = r } in v.start ≡ w.start
set_start w r (Base j) new = refl
set_start w r (Scratch j) new = refl

pub set-keeps : (w : World) (r : Room) (a : Addr) (old new : Cell)
    → read_cell w a ≡ Some old
    → kind_of new ≡ kind_of old
    → is_own w.start a ≡ true
    → Keeps w (record (replaced w a new) { room = r })
set-keeps w r a old new e k own =
    record {
      start = set_start w r a new;
      kinds = set_kinds w r a old new e k;
      others = set_others w.start w r a new own;
    }

pub written_keeps : (w : World) (a : Addr) (old : Cell) (o : Option Cell)
    → read_cell w a ≡ Some old
    → KindKept old o
    → is_own w.start a ≡ true
    → AfterFine (written w a old o) (λ u v. Keeps w v)
written_keeps w a old None e k own = keeps-same w
written_keeps w a old (Some new) e k own =
    let v : World = record (replaced w a new) { room = room_after w.room (weight old) (weight new) } in
    let P : Unit {0} → World → Type 0 = λ u x. Keeps w x in
    fine_if (nat_le (weight new) (w.room.units + weight old)) counted.Units (fine tt v) P
    (set-keeps w v.room a old new e k own)

pub written_at_keeps : (w : World) (a : Addr) (ch : Change) (o : Option Cell)
    → read_cell w a ≡ o
    → is_own w.start a ≡ true
    → AfterFine (written_at w a o ch) (λ u v. Keeps w v)
written_at_keeps w a ch None e own = keeps-same w
written_at_keeps w a ch (Some old) e own = written_keeps w a old (changed old ch) e (changed-kind old ch) own

pub own_keeps : (w : World) (a : Addr) (ch : Change) (b : Bool)
    → is_own w.start a ≡ b
    → AfterFine (if b then written_at w a (read_cell w a) ch else effect) (λ u v. Keeps w v)
own_keeps w a ch true own = written_at_keeps w a ch (read_cell w a) refl own
own_keeps w a ch false own = tt

pub writing-keeps : (w : World) (a : Addr) (ch : Change) → AfterFine (write_cell w a ch) (λ u v. Keeps w v)
writing-keeps w a ch = own_keeps w a ch (is_own w.start a) refl
