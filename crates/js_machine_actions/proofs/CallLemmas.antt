-- Lemmas on calls of built-in functions.
use Rattle.std.proofs.Common.{◌≡◌, ℕ, ◌-◌, true, false, List, [], ◌∷◌, length, take, drop, Option, Some, None, refl, ap, arith}
use Rattle.js_heap.specs.declared.value.Addr.{Addr}
use Rattle.js_heap.specs.declared.value.Value.{Value}
use Rattle.js_heap.specs.declared.value.Value.TheVariants as values
use Rattle.js_heap.specs.declared.built_in.BuiltIn.{BuiltIn}
use Rattle.js_heap.specs.declared.cell.Cell.{Cell}
use Rattle.js_heap.specs.declared.cell.Cell.TheVariants as cells
use Rattle.js_heap.specs.declared.change.Change.TheVariants as changes
use Rattle.js_heap.specs.World.{World, read_cell}
use Rattle.js_semantics.specs.State.{write, give}
use Rattle.js_semantics.specs.BuiltIns.{argument, pop_last, last_of, place, part_between, slice_places, is_array, is_array_cell, on_array, on_array_cell, array_call, wrong_type}
use Rattle.js_machine_actions.specs.Texts.{elements_of_cell, elements_at, both_places}

-- ---- the last element

pub pop-none : (a : Addr) (vs : List Value) → length vs ≡ 0 → pop_last a vs ≡ give values.Undefined
pop-none a [] e = refl
pop-none a (v ∷ vs) e = absurd (omega arith)

pub pop-some : (a : Addr) (vs : List Value) (l : ℕ)
    → l ≡ length vs
    → (l ≡ 0 → ⊥)
    → pop_last a vs ≡ write a (changes.Length (l - 1)) (give (last_of vs))
pop-some a [] l e h = absurd (h e)
pop-some a (v ∷ vs) l e h =
    let d : length vs ≡ l - 1 = omega arith in ap (λ n. write a (changes.Length n) (give (last_of (v ∷ vs)))) d

pub ruleset pop_rules = (pop-none, pop-some)

-- ---- parts of arrays and strings

part_none : {A : Type 0} (xs : List A) (i j : Option ℕ) → both_places i j ≡ None → part_between xs i j ≡ None
part_none xs (Some i) (Some j) e = cc
part_none xs (Some i) None e = refl
part_none xs None (Some j) e = refl
part_none xs None None e = refl

part_some : {A : Type 0} (xs : List A) (i j : Option ℕ) (m n : ℕ)
    → both_places i j ≡ Some (m, n)
    → part_between xs i j ≡ Some (take (n - m) (drop m xs))
part_some xs (Some i) (Some j) m n e =
    let f : (i, j) ≡ (m, n) = cc in
    ap (λ (p : ℕ × ℕ). Some (take (p.1 - p.0) (drop p.0 xs))) f
part_some xs (Some i) None m n e = cc
part_some xs None (Some j) m n e = cc
part_some xs None None m n e = cc

pub slice-none : {A : Type 0} (xs : List A) (args : List Value)
    → both_places (place (length xs) 0 (argument args 0)) (place (length xs) (length xs) (argument args 1)) ≡ None
    → slice_places xs args ≡ None
slice-none xs args e =
    part_none xs (place (length xs) 0 (argument args 0)) (place (length xs) (length xs) (argument args 1)) e

pub slice-some : {A : Type 0} (xs : List A) (args : List Value) (m n : ℕ)
    → both_places (place (length xs) 0 (argument args 0)) (place (length xs) (length xs) (argument args 1)) ≡ Some
    (m, n)
    → slice_places xs args ≡ Some (take (n - m) (drop m xs))
slice-some xs args m n e =
    part_some xs (place (length xs) 0 (argument args 0)) (place (length xs) (length xs) (argument args 1)) m n e

pub ruleset slice_rules = (slice-none, slice-some)

-- ---- methods of arrays

on_array_by : (w : World) (f : BuiltIn) (a : Addr) (o : Option Cell) (args : List Value)
    → is_array_cell o ≡ true
    → on_array_cell w f a o args ≡ array_call w f a (elements_of_cell o) args
on_array_by w f a (Some (cells.Array vs)) args e = refl
on_array_by w f a None args e = cc
on_array_by w f a (Some _) args e = cc

off_array_by : (w : World) (f : BuiltIn) (a : Addr) (o : Option Cell) (args : List Value)
    → is_array_cell o ≡ false
    → on_array_cell w f a o args ≡ wrong_type
off_array_by w f a (Some (cells.Array vs)) args e = cc
off_array_by w f a None args e = refl
off_array_by w f a (Some _) args e = refl

pub array-is : (w : World) (f : BuiltIn) (a : Addr) (args : List Value)
    → is_array w (values.Object a) ≡ true
    → on_array w f (values.Object a) args ≡ array_call w f a (elements_at w a) args
array-is w f a args e = on_array_by w f a (read_cell w a) args e

pub array-none : (w : World) (f : BuiltIn) (a : Addr) (args : List Value)
    → is_array w (values.Object a) ≡ false
    → on_array w f (values.Object a) args ≡ wrong_type
array-none w f a args e = off_array_by w f a (read_cell w a) args e

pub ruleset array_rules = (array-is, array-none)
