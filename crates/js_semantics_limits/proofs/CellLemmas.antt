-- Making and writing a cell balance.
use Rattle.std.proofs.Common.{◌≡◌, ℕ, zero, suc, ◌+◌, ◌<◌, ◌≤◌, Bool, true, false, List, [], ◌∷◌, ◌++◌, Option, None, Some, refl, ap, ◌∙◌, arith}
use Rattle.std.specs.Prelude.{slice_get, slice_set, nat_le, nat_lt, if◌then◌else◌}
use Rattle.std.proofs.lemmas.Bool.Decides.{nat_tests}
use Rattle.std.proofs.lemmas.List.{length-set, length_push}
use Rattle.js_heap.specs.declared.value.Addr.{Addr}
use Rattle.js_heap.specs.declared.value.Addr.TheVariants.{Base, Scratch}
use Rattle.js_heap.specs.declared.cell.Cell.{Cell}
use Rattle.js_heap.specs.declared.change.Change.{Change}
use Rattle.js_heap.specs.declared.change.Counted.{Counted}
use Rattle.js_heap.specs.declared.change.Counted.TheVariants as counted
use Rattle.js_heap.specs.Cells.{changed, weight}
use Rattle.js_heap.specs.World.{World, Tried, fine, effect, full, is_own, make_cell, next_address, read_cell, replaced, room_after, room_less, with_cell, write_cell, written, written_at}
use Rattle.js_heap.specs.Worlds.{AfterFine}
use Rattle.js_semantics_limits.specs.Balances.{Balances, units_in}

pub balances-same : (w : World) → Balances w w
balances-same w = record { cells = refl; units = refl }

pub balances-then : (u v w : World) → Balances u v → Balances v w → Balances u w
balances-then u v w first second =
    record { cells = second.cells ∙ first.cells; units = second.units ∙ first.units }

-- ---- the units of cells

pub units-push : (cs : List Cell) (c : Cell) → units_in (cs ++ c ∷ []) ≡ units_in cs + weight c
units-push [] c = omega arith
units-push (d ∷ cs) c =
    let rest = units-push cs c in
    omega (arith, rest)

units-set : (cs : List Cell) (i : ℕ) (old new : Cell)
    → slice_get cs i ≡ Some old
    → units_in (slice_set cs i new) + weight old ≡ units_in cs + weight new
units-set [] i old new is = absurd cc
units-set (d ∷ cs) zero old new is =
    let same : d ≡ old = cc in
    let alike = ap weight same in
    omega (arith, alike)
units-set (d ∷ cs) (suc i) old new is =
    let rest = units-set cs i old new is in
    omega (arith, rest)

-- ---- making

made-balances : (w : World) (c : Cell) (o : Option ℕ)
    → 0 < w.room.cells
    → weight c ≤ w.room.units
    → Balances w (record (with_cell w o c) { room = room_less w.room (weight c) })
made-balances w c None some enough =
    let longer = length_push w.base c in
    let heavier = units-push w.base c in
    record { cells = omega (arith, some, longer); units = omega (arith, enough, heavier) }
made-balances w c (Some n) some enough =
    let longer = length_push w.scratch c in
    let heavier = units-push w.scratch c in
    record { cells = omega (arith, some, longer); units = omega (arith, enough, heavier) }

-- where a test holds, what is answered then; else a refusal
pub fine-when : {A : Type 0} (b : Bool) (what : Counted) (t : Tried A) (P : A → World → Type 0)
    → (b ≡ true → AfterFine t P)
    → AfterFine (if b then t else full what) P
fine-when true what t P h = h refl
fine-when false what t P h = tt

pub more-than : (m n : ℕ) → nat_lt m n ≡ true → m < n
more-than m n e = grind (arith, nat_tests)

pub no-more-than : (m n : ℕ) → nat_le m n ≡ true → m ≤ n
no-more-than m n e = grind (arith, nat_tests)

pub making-balances : (w : World) (c : Cell) → AfterFine (make_cell w c) (λ a v. Balances w v)
making-balances w c =
    let v : World = record (with_cell w w.start c) { room = room_less w.room (weight c) } in
    let P : Addr → World → Type 0 = λ a u. Balances w u in
    fine-when (nat_lt 0 w.room.cells) counted.Cells
    (if nat_le (weight c) w.room.units then fine (next_address w w.start) v else full counted.Units) P
    (λ some. fine-when (nat_le (weight c) w.room.units) counted.Units (fine (next_address w w.start) v) P
    (λ enough. made-balances w c w.start (more-than 0 w.room.cells some)
    (no-more-than (weight c) w.room.units enough)))

-- ---- writing

replaced-balances : (w : World) (a : Addr) (old new : Cell)
    → read_cell w a ≡ Some old
    → weight new ≤ w.room.units + weight old
    → Balances w (record (replaced w a new) { room = room_after w.room (weight old) (weight new) })
replaced-balances w (Base i) old new is enough =
    let as_long = length-set w.base i new in
    let heavier = units-set w.base i old new is in
    record { cells = omega (arith, as_long); units = omega (arith, enough, heavier) }
replaced-balances w (Scratch i) old new is enough =
    let as_long = length-set w.scratch i new in
    let heavier = units-set w.scratch i old new is in
    record { cells = omega (arith, as_long); units = omega (arith, enough, heavier) }

written-new : (w : World) (a : Addr) (old : Cell) (o : Option Cell)
    → read_cell w a ≡ Some old
    → AfterFine (written w a old o) (λ u v. Balances w v)
written-new w a old None is = balances-same w
written-new w a old (Some new) is =
    let v : World = record (replaced w a new) { room = room_after w.room (weight old) (weight new) } in
    let P : Unit {0} → World → Type 0 = λ u x. Balances w x in
    fine-when (nat_le (weight new) (w.room.units + weight old)) counted.Units (fine tt v) P
    (λ enough. replaced-balances w a old new is (no-more-than (weight new) (w.room.units + weight old) enough))

written-there : (w : World) (a : Addr) (c : Change) (o : Option Cell)
    → read_cell w a ≡ o
    → AfterFine (written_at w a o c) (λ u v. Balances w v)
written-there w a c None is = balances-same w
written-there w a c (Some old) is = written-new w a old (changed old c) is

written-own : (w : World) (a : Addr) (c : Change) (b : Bool)
    → AfterFine (if b then written_at w a (read_cell w a) c else effect) (λ u v. Balances w v)
written-own w a c true = written-there w a c (read_cell w a) refl
written-own w a c false = tt

pub writing-balances : (w : World) (a : Addr) (c : Change) → AfterFine (write_cell w a c) (λ u v. Balances w v)
writing-balances w a c = written-own w a c (is_own w.start a)
