-- Lemmas on rows of properties.
use Rattle.std.proofs.Common.{◌≡◌, ℕ, ◌<◌, ◌≤◌, true, List, [], ◌∷◌, length, get_or, Option, Some, None, refl, sym, ap, ◌∙◌, subst, arith}
use Rattle.std.specs.Prelude.{Result, Ok, pos, nat_le}
use Rattle.std.specs.Fmt.{decimal}
use Rattle.js_heap.specs.declared.value.Addr.{Addr}
use Rattle.js_heap.specs.declared.value.Value.{Value}
use Rattle.js_heap.specs.declared.value.Value.TheVariants as values
use Rattle.js_heap.specs.declared.cell.Cell.{Cell}
use Rattle.js_heap.specs.declared.cell.Cell.TheVariants as cells
use Rattle.js_heap.specs.declared.change.Change.{Change}
use Rattle.js_heap.specs.declared.change.Change.TheVariants as changes
use Rattle.js_heap.specs.declared.computed.Written.{Written}
use Rattle.js_heap.specs.declared.computed.Written.TheVariants.{Change as a_change}
use Rattle.js_heap.specs.Properties.{property_of, property_written, property_deleted, cell_change, array_change, element_change}
use Rattle.js_heap.specs.World.{World, read_cell}
use Rattle.js_semantics.specs.State.{Action, give, write}
use Rattle.js_semantics.specs.BuiltIns.{last_of}
use Rattle.js_semantics.specs.References.{with_result, with_written}
use Rattle.js_machine_actions.specs.declared.action_end.ActionEnd.{ActionEnd}
use Rattle.js_machine_actions.specs.Flow.{Yields, Passes}
use Rattle.js_machine_actions.specs.References.{indexed, index_written, index_deleted}
use Rattle.js_machine_engine.specs.declared.reduced.Reduced.{Reduced}
use Rattle.js_machine_engine.specs.declared.reduced.Reduced.TheVariants as reduced
use Rattle.js_machine_rows.specs.Does.{Replies, replied_with}
use Rattle.js_machine_rows.specs.References.{member_result, index_result, member_put, index_put, member_removed, index_removed, has_place}
use Rattle.js_machine_rows.proofs.AnswerLemmas.{given-replies, passes-reply}
use Rattle.js_machine_rows.proofs.ReadingLemmas.{index-decimal}

-- ---- reading by the first values

pub member-reads : (vs : List Value) (n : List ℕ) (v : World) (r : Result Value ActionEnd) (w : World)
    → 1 ≤ length vs
    → Yields (with_result (property_of v (get_or vs 0 values.Undefined) n)) v r w
    → Yields (with_result (member_result v vs n)) v r w
member-reads [] n v r w l h = absurd (omega (arith, l))
member-reads (o ∷ vs) n v r w l h = h

pub no-member : (vs : List Value) (n : List ℕ) (v : World)
    → length vs < 1
    → Yields (with_result (member_result v vs n)) v (Ok values.Undefined) v
no-member [] n v l = λ s k. refl
no-member (o ∷ vs) n v l = absurd (omega (arith, l))

pub index-reads : (vs : List Value) (v : World) (r : Result Value ActionEnd) (w : World)
    → 2 ≤ length vs
    → Yields (indexed v (get_or vs 0 values.Undefined) (get_or vs 1 values.Undefined)) v r w
    → Yields (with_result (index_result v vs)) v r w
index-reads [] v r w l h = absurd (omega (arith, l))
index-reads (o ∷ []) v r w l h = absurd (omega (arith, l))
index-reads (o ∷ i ∷ vs) v r w l h = h

pub no-index : (vs : List Value) (v : World)
    → length vs < 2
    → Yields (with_result (index_result v vs)) v (Ok values.Undefined) v
no-index [] v l = λ s k. refl
no-index (o ∷ []) v l = λ s k. refl
no-index (o ∷ i ∷ vs) v l = absurd (omega (arith, l))

pub ruleset reads_rules = (member-reads, no-member, index-reads, no-index)

-- ---- writing and deleting by the first values

undefined_given : (ts : List (List ℕ)) (v : World)
    → Replies ts (give values.Undefined) v (reduced.Gives values.Undefined) v
undefined_given ts v = given-replies ts (give values.Undefined) v (Ok values.Undefined) v (λ s. refl)

by_value : (ts : List (List ℕ)) (f : Value → Action → Action) (x y : Value) (v : World)
    (r : Result (Unit {0}) ActionEnd) (w : World) (q : Reduced)
    → x ≡ y
    → Passes (f x) v r w
    → q ≡ replied_with r x
    → Replies ts (f y (give y)) v q w
by_value ts f x y v r w q g h e =
    let P : Value → Type 0 = λ z. Replies ts (f z (give z)) v q w in
    subst P g (passes-reply ts (f x) x v r w q h e)

pub member-assigned : (ts : List (List ℕ)) (vs : List Value) (x : Value) (n : List ℕ) (v : World)
    (r : Result (Unit {0}) ActionEnd) (w : World) (q : Reduced)
    → 1 ≤ length vs
    → x ≡ last_of vs
    → Passes (with_written (property_written v (get_or vs 0 values.Undefined) n x)) v r w
    → q ≡ replied_with r x →
    Replies ts (member_put v vs n (last_of vs) (give (last_of vs))) v q w
member-assigned ts [] x n v r w q l i h e = absurd (omega (arith, l))
member-assigned ts (o ∷ vs) x n v r w q l i h e =
    by_value ts (λ y. with_written (property_written v o n y)) x (last_of (o ∷ vs)) v r w q i h e

pub no-member-put : (ts : List (List ℕ)) (vs : List Value) (n : List ℕ) (x : Value) (k : Action) (v : World)
    → length vs < 1
    → Replies ts (member_put v vs n x k) v (reduced.Gives values.Undefined) v
no-member-put ts [] n x k v l = undefined_given ts v
no-member-put ts (o ∷ vs) n x k v l = absurd (omega (arith, l))

pub index-assigned : (ts : List (List ℕ)) (vs : List Value) (x : Value) (v : World)
    (r : Result (Unit {0}) ActionEnd) (w : World) (q : Reduced)
    → 2 ≤ length vs
    → x ≡ last_of vs
    → Passes (index_written v (get_or vs 0 values.Undefined) (get_or vs 1 values.Undefined) x) v r w
    → q ≡ replied_with r x →
    Replies ts (index_put v vs (last_of vs) (give (last_of vs))) v q w
index-assigned ts [] x v r w q l j h e = absurd (omega (arith, l))
index-assigned ts (o ∷ []) x v r w q l j h e = absurd (omega (arith, l))
index-assigned ts (o ∷ i ∷ vs) x v r w q l j h e =
    by_value ts (index_written v o i) x (last_of (o ∷ i ∷ vs)) v r w q j h e

pub no-index-put : (ts : List (List ℕ)) (vs : List Value) (x : Value) (k : Action) (v : World)
    → length vs < 2
    → Replies ts (index_put v vs x k) v (reduced.Gives values.Undefined) v
no-index-put ts [] x k v l = undefined_given ts v
no-index-put ts (o ∷ []) x k v l = undefined_given ts v
no-index-put ts (o ∷ i ∷ vs) x k v l = absurd (omega (arith, l))

pub member-deleted : (ts : List (List ℕ)) (vs : List Value) (x : Value) (n : List ℕ) (v : World)
    (r : Result (Unit {0}) ActionEnd) (w : World) (q : Reduced)
    → 1 ≤ length vs
    → Passes (with_written (property_deleted v (get_or vs 0 values.Undefined) n)) v r w
    → q ≡ replied_with r x
    → Replies ts (member_removed v vs n (give x)) v q w
member-deleted ts [] x n v r w q l h e = absurd (omega (arith, l))
member-deleted ts (o ∷ vs) x n v r w q l h e =
    passes-reply ts (with_written (property_deleted v o n)) x v r w q h e

pub no-member-removed : (ts : List (List ℕ)) (vs : List Value) (n : List ℕ) (k : Action) (v : World)
    → length vs < 1
    → Replies ts (member_removed v vs n k) v (reduced.Gives values.Undefined) v
no-member-removed ts [] n k v l = undefined_given ts v
no-member-removed ts (o ∷ vs) n k v l = absurd (omega (arith, l))

pub index-deleted : (ts : List (List ℕ)) (vs : List Value) (x : Value) (v : World) (r : Result (Unit {0}) ActionEnd)
    (w : World) (q : Reduced)
    → 2 ≤ length vs
    → Passes (index_deleted v (get_or vs 0 values.Undefined) (get_or vs 1 values.Undefined)) v r w
    → q ≡ replied_with r x
    → Replies ts (index_removed v vs (give x)) v q w
index-deleted ts [] x v r w q l h e = absurd (omega (arith, l))
index-deleted ts (o ∷ []) x v r w q l h e = absurd (omega (arith, l))
index-deleted ts (o ∷ i ∷ vs) x v r w q l h e = passes-reply ts (index_deleted v o i) x v r w q h e

pub no-index-removed : (ts : List (List ℕ)) (vs : List Value) (k : Action) (v : World)
    → length vs < 2
    → Replies ts (index_removed v vs k) v (reduced.Gives values.Undefined) v
no-index-removed ts [] k v l = undefined_given ts v
no-index-removed ts (o ∷ []) k v l = undefined_given ts v
no-index-removed ts (o ∷ i ∷ vs) k v l = absurd (omega (arith, l))

-- ---- changes that are known

pub passes-change : (x : Written) (a : Addr) (c : Change) (v : World) (r : Result (Unit {0}) ActionEnd) (w : World)
    → x ≡ a_change a c
    → Passes (write a c) v r w
    → Passes (with_written x) v r w
passes-change x a c v r w e h = let P : Written → Type 0 = λ y. Passes (with_written y) v r w in subst P (sym e) h

element_by : (a : Addr) (vs : List Value) (i : ℕ) (v : Value)
    → nat_le i (length vs) ≡ true
    → element_change a vs i v ≡ a_change a (changes.Element i v)
element_by a vs i v h = rw h refl

put_in_array : (a : Addr) (c : Option Cell) (n : ℕ) (v : Value)
    → n < 4294967295
    → has_place c n ≡ true
    → cell_change a c (decimal n) v ≡ a_change a (changes.Element n v)
put_in_array a None n v l h = cc
put_in_array a (Some (cells.Object ps)) n v l h = cc
put_in_array a (Some (cells.Error x ps)) n v l h = cc
put_in_array a (Some (cells.Array vs)) n v l h =
    ap (λ o. array_change a vs (decimal n) o v) (index-decimal n l) ∙ element_by a vs n v h
put_in_array a (Some (cells.Text us)) n v l h = cc
put_in_array a (Some (cells.Function k x m s t)) n v l h = cc
put_in_array a (Some (cells.Bindings k x o ns)) n v l h = cc

-- an element is written at the index that the key is
pub element-written : (o i : Value) (a : Addr) (n : ℕ) (x : Value) (v : World) (r : Result (Unit {0}) ActionEnd)
    (w : World)
    → o ≡ values.Object a
    → i ≡ values.Number (pos n)
    → n < 4294967295
    → has_place (read_cell v a) n ≡ true
    → Passes (write a (changes.Element n x)) v r w
    → Passes (index_written v o i x) v r w
element-written o i a n x v r w e f l g h =
    let P : Value → Type 0 = λ y. Passes (index_written v y i x) v r w in
    let Q : Value → Type 0 = λ y. Passes (index_written v (values.Object a) y x) v r w in
    subst P (sym e)
    (subst Q (sym f)
    (passes-change (cell_change a (read_cell v a) (decimal n) x) a (changes.Element n x) v r w
    (put_in_array a (read_cell v a) n x l g) h))
