-- Lemmas on reading.
use Rattle.std.proofs.Common.{◌≡◌, ℕ, zero, suc, ◌<◌, Bool, true, false, List, [], ◌∷◌, length, get_or, Option, Some, None, refl, sym, ap, ◌∙◌, subst, arith, if◌then◌else◌}
use Rattle.std.specs.Prelude.{pos, IfSome, slice_get, nat_eq, nat_lt, not, ◌&&◌, ◌^◌, ◌-◌}
use Rattle.std.specs.Fmt.{decimal}
use Rattle.std.specs.Str.{all_ascii_digits}
use Rattle.std.specs.Str.Parse.{digits_value}
use Rattle.std.proofs.lemmas.Fmt.{decimal_is_IsNumeral, first_decimal, decimal_digit, digits_decimal}
use Rattle.std.proofs.lemmas.Str.Parse.{numerals_by_value, tells_all_ascii_digits}
use Rattle.js_heap.specs.declared.value.Value.{Value}
use Rattle.js_heap.specs.declared.value.Value.TheVariants as values
use Rattle.js_heap.specs.declared.cell.Property.{Property}
use Rattle.js_heap.specs.declared.computed.Computed.{Computed}
use Rattle.js_heap.specs.declared.computed.Computed.TheVariants.{Value as a_value}
use Rattle.js_heap.specs.Keys.{is_shortest, index_within, index_of_key, property_at}
use Rattle.js_heap.specs.Properties.{property_of, cell_property, element_or_method, value_or, own_or}
use Rattle.js_heap.specs.declared.value.Addr.{Addr}
use Rattle.js_heap.specs.declared.cell.Cell.{Cell}
use Rattle.js_heap.specs.World.{World, read_cell}
use Rattle.js_heap.specs.Values.{key_of}
use Rattle.js_semantics.specs.State.{State, with_world, Action}
use Rattle.js_semantics.specs.References.{with_result, keyed_result}
use Rattle.js_machine_actions.specs.Flow.{performed}

-- ---- what is a value is gone on with

pub value-yields : (x : Computed) (u : Value) (w : World) (s : State) (k : Value → Action)
    → x ≡ a_value u
    → performed (with_result x k) (with_world s w) ≡ performed (k u) (with_world s w)
value-yields x u w s k h = ap (λ y. performed (with_result y k) (with_world s w)) h

pub ruleset value_rules = (value-yields)

pub if-some-by : (o : Option Value) (x y : Computed)
    → x ≡ y
    → IfSome o (λ v. x ≡ a_value v)
    → IfSome o (λ v. y ≡ a_value v)
if-some-by o x y e h = let P : Computed → Type 0 = λ z. IfSome o (λ v. z ≡ a_value v) in subst P e h

-- a property of an object, by its cell and its key
pub member-by : (w : World) (o : Value) (a : Addr) (c d : Option Cell) (k l : List ℕ)
    → o ≡ values.Object a
    → c ≡ d
    → d ≡ read_cell w a
    → k ≡ l
    → cell_property c k ≡ property_of w o l
member-by w o a c d k l e f h i =
    ap (λ x. cell_property x k) (f ∙ h)
    ∙ ap (λ x. cell_property (read_cell w a) x) i
    ∙ ap (λ x. property_of w x l) (sym e)

-- an element, by the array's cell and its index
pub index-by : (w : World) (o i : Value) (a : Addr) (n : ℕ) (c : Option Cell)
    → o ≡ values.Object a
    → i ≡ values.Number (pos n)
    → c ≡ read_cell w a
    → cell_property c (decimal n) ≡ keyed_result (key_of w i) (property_of w o)
index-by w o i a n c e f h =
    ap (λ x. cell_property x (decimal n)) h
    ∙ ap (λ x. keyed_result (key_of w x) (property_of w (values.Object a))) (sym f)
    ∙ ap (λ x. keyed_result (key_of w i) (property_of w x)) (sym e)

-- ---- own properties

pub own-value : (ps : List Property) (key : List ℕ) (p : Property)
    → Some p ≡ property_at ps key
    → own_or (property_at ps key) (a_value values.Undefined) ≡ a_value p.value
own-value ps key p h = ap (λ o. own_or o (a_value values.Undefined)) (sym h)

pub own-none : (ps : List Property) (key : List ℕ)
    → None ≡ property_at ps key
    → own_or (property_at ps key) (a_value values.Undefined) ≡ a_value values.Undefined
own-none ps key h = ap (λ o. own_or o (a_value values.Undefined)) (sym h)

pub ruleset own_rules = (own-value, own-none)

-- ---- indices: the text of a number is the key of that index

not_zero : (c : ℕ) → 48 < c → not (nat_eq c 48) ≡ true
not_zero c h = grind arith

shortest_by : (ds : List ℕ) → 0 < length ds → 48 < get_or ds 0 0 → is_shortest ds ≡ true
shortest_by [] h k = absurd (omega arith)
shortest_by (d ∷ []) h k = refl
shortest_by (d ∷ e ∷ ds) h k = not_zero d k

decimal_shortest : (n : ℕ) → n < 4294967295 → is_shortest (decimal n) ≡ true
decimal_shortest zero h = rw (decimal_digit 0 (omega arith)) refl
decimal_shortest (suc n) h =
    shortest_by (decimal (suc n)) (decimal_is_IsNumeral (suc n) (omega arith)).0.0
    (first_decimal (suc n) (omega arith) (omega arith))

decimal_digits : (n : ℕ) → n < 4294967295 → all_ascii_digits (decimal n) ≡ true
decimal_digits n h = digits_decimal (numerals_by_value _ tells_all_ascii_digits) n (omega arith)

within_is : (v n : ℕ) → v ≡ n → n < 4294967295 → (if nat_lt v (2 ^ 32 - 1) then Some v else None) ≡ Some n
within_is v n e h =
    let P : ℕ → Type 0 = λ m. (if nat_lt m (2 ^ 32 - 1) then Some m else None) ≡ Some n in subst P (sym e) (grind arith)

if_both : (a b : Bool) (x : Option ℕ) → a ≡ true → b ≡ true → (if a && b then x else None) ≡ x
if_both true true x e f = refl
if_both false b x e f = cc
if_both true false x e f = cc

pub index-decimal : (n : ℕ) → n < 4294967295 → index_of_key (decimal n) ≡ Some n
index-decimal n h =
    if_both (is_shortest (decimal n)) (all_ascii_digits (decimal n)) (index_within (decimal n)) (decimal_shortest n h)
    (decimal_digits n h)
    ∙ within_is (digits_value 10 (decimal n)) n (decimal_is_IsNumeral n (omega arith)).1 h

pub element-reads : (vs : List Value) (n : ℕ) (v : Value)
    → n < 4294967295
    → slice_get vs n ≡ Some v
    → element_or_method vs (decimal n) (index_of_key (decimal n)) ≡ a_value v
element-reads vs n v h e =
    ap (λ o. element_or_method vs (decimal n) o) (index-decimal n h) ∙ ap (λ o. value_or o (a_value values.Undefined)) e

pub element-if : (vs : List Value) (n : ℕ) (o : Option Value)
    → n < 4294967295
    → slice_get vs n ≡ o
    → IfSome o (λ v. element_or_method vs (decimal n) (index_of_key (decimal n)) ≡ a_value v)
element-if vs n None h e = tt
element-if vs n (Some v) h e = element-reads vs n v h e
