-- Lemmas on changes of properties.
use Rattle.std.proofs.Common.{◌≡◌, ℕ, Bool, true, false, List, length, Option, Some, None, sym, subst, pos, negsuc, if◌then◌else◌}
use Rattle.std.specs.Prelude.{nat_le, codes}
use Rattle.js_heap.specs.declared.value.Addr.{Addr}
use Rattle.js_heap.specs.declared.value.Value.{Value}
use Rattle.js_heap.specs.declared.value.Value.TheVariants as values
use Rattle.js_heap.specs.declared.cell.Cell.{Cell}
use Rattle.js_heap.specs.declared.cell.Cell.TheVariants as cells
use Rattle.js_heap.specs.declared.computed.Written.{Written}
use Rattle.js_heap.specs.Keys.{same_units, index_of_key}
use Rattle.js_heap.specs.World.{World, read_cell}
use Rattle.js_heap.specs.Properties.{length_change, array_change, cell_change, property_written, cell_removal, property_deleted}
use Rattle.js_machine_actions.specs.References.{IsOfProperty}

if_property : (b : Bool) (x y : Written) → IsOfProperty x → IsOfProperty y → IsOfProperty (if b then x else y)
if_property true x y p q = p
if_property false x y p q = q

length_property : (a : Addr) (vs : List Value) (v : Value) → IsOfProperty (length_change a vs v)
length_property a vs (values.Number (pos l)) = if_property (nat_le l (length vs)) _ _ tt tt
length_property a vs (values.Number (negsuc l)) = tt
length_property a vs _ = tt

array_property : (a : Addr) (vs : List Value) (key : List ℕ) (i : Option ℕ) (v : Value)
    → IsOfProperty (array_change a vs key i v)
array_property a vs key (Some i) v = if_property (nat_le i (length vs)) _ _ tt tt
array_property a vs key None v = if_property (same_units key (codes "length")) _ _ (length_property a vs v) tt

cell_property : (a : Addr) (c : Option Cell) (key : List ℕ) (v : Value) → IsOfProperty (cell_change a c key v)
cell_property a (Some (cells.Object ps)) key v = tt
cell_property a (Some (cells.Error class ps)) key v = tt
cell_property a (Some (cells.Array vs)) key v = array_property a vs key (index_of_key key) v
cell_property a (Some _) key v = tt
cell_property a None key v = tt

written_property : (w : World) (o : Value) (key : List ℕ) (v : Value) → IsOfProperty (property_written w o key v)
written_property w (values.Object a) key v = cell_property a (read_cell w a) key v
written_property w _ key v = tt

removed_property : (a : Addr) (c : Option Cell) (key : List ℕ) → IsOfProperty (cell_removal a c key)
removed_property a (Some (cells.Object ps)) key = tt
removed_property a (Some (cells.Error class ps)) key = tt
removed_property a (Some _) key = tt
removed_property a None key = tt

deleted_property : (w : World) (o : Value) (key : List ℕ) → IsOfProperty (property_deleted w o key)
deleted_property w (values.Object a) key = removed_property a (read_cell w a) key
deleted_property w _ key = tt

-- writing and deleting a property change no scope
pub written-property : (w : World) (o : Value) (key : List ℕ) (v : Value) (r : Written)
    → r ≡ property_written w o key v
    → IsOfProperty r
written-property w o key v r e =
    let P : Written → Type 0 = λ x. IsOfProperty x in subst P (sym e) (written_property w o key v)

pub deleted-property : (w : World) (o : Value) (key : List ℕ) (r : Written)
    → r ≡ property_deleted w o key
    → IsOfProperty r
deleted-property w o key r e =
    let P : Written → Type 0 = λ x. IsOfProperty x in subst P (sym e) (deleted_property w o key)
