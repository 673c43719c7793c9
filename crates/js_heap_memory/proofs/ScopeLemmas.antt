-- A scope's names by their numbers.
use Rattle.std.proofs.Common.{◌≡◌, ℕ, zero, suc, ◌+◌, ◌<◌, ◌≤◌, Bool, true, false, List, [], ◌∷◌, ◌++◌, length, get_or, Option, Some, None, refl, sym, ap, ◌∙◌, subst, arith, if◌then◌else◌}
use Rattle.std.specs.Prelude.{slice_set, nat_eq}
use Rattle.js_heap.specs.declared.value.Value.{Value}
use Rattle.js_heap.specs.declared.cell.Binding.{Binding}
use Rattle.js_heap.specs.Cells.{bound, binding_of}
use Rattle.js_heap.specs.Places.{name_place}
use Rattle.js_heap_memory.specs.declared.stored.Slot.{Slot}
use Rattle.js_heap_memory.specs.Cells.{binding_at, bindings, texts_of, slots_from}
use Rattle.js_heap_memory.specs.Names.{name_of, Differ}
use Rattle.js_heap_memory.specs.declared.names.NameId.{NameId}
use Rattle.js_heap.specs.declared.value.Addr.{Addr}
use Rattle.js_heap.specs.declared.value.Value.TheVariants as values
use Rattle.js_heap.specs.Scopes.{Found, found_here}
use Rattle.js_heap.specs.Arguments.{argument, parameters_from}
use Rattle.js_heap_memory.specs.Calls.{kept_found}
use Rattle.js_heap_memory.specs.Places.{slot_place, with_value_at}
use Rattle.js_heap_memory.proofs.TableLemmas.{same-names}
use Rattle.js_heap.proofs.PlaceLemmas.{one_plus}

pub bindings-append : (ts : List (List ℕ)) (ss rs : List Slot)
    → bindings ts (ss ++ rs) ≡ bindings ts ss ++ bindings ts rs
bindings-append ts [] rs = refl
bindings-append ts (s ∷ ss) rs = ap {B = List Binding} (λ bs. binding_at ts s ∷ bs) (bindings-append ts ss rs)

pub bindings-length : (ts : List (List ℕ)) (ss : List Slot) → length (bindings ts ss) ≡ length ss
bindings-length ts [] = refl
bindings-length ts (s ∷ ss) = ap suc (bindings-length ts ss)

pub ruleset length_rules = (bindings-length)

pub place-names : (ts : List (List ℕ)) (ss : List Slot) (n : ℕ)
    → Differ ts
    → name_place (bindings ts ss) (name_of ts n) ≡ slot_place ss n
place-names ts [] n d = refl
place-names ts (s ∷ ss) n d = rw (same-names ts s.name.number n d, place-names ts ss n d) refl

-- ---- looking for a name

-- the binding at a name's place
pub binding-there : (ts : List (List ℕ)) (ss : List Slot) (n : ℕ) (d : Slot)
    → Differ ts
    → slot_place ss n < length ss
    → binding_of (bindings ts ss) (name_of ts n) ≡ Some (binding_at ts (get_or ss (slot_place ss n) d))
binding-there ts [] n d f h = absurd (omega arith)
binding-there ts (s ∷ ss) n d f h =
    rw (same-names ts s.name.number n f) (there (nat_eq s.name.number n) (binding-there ts ss n d f) h)
  where
    there : (t : Bool)
        → (slot_place ss n < length ss
        → binding_of (bindings ts ss) (name_of ts n) ≡ Some (binding_at ts (get_or ss (slot_place ss n) d)))
        → (if t then 0 else 1 + slot_place ss n) < suc (length ss)
        → (if t then Some (binding_at ts s) else binding_of (bindings ts ss) (name_of ts n)) ≡ Some
        (binding_at ts (get_or (s ∷ ss) (if t then 0 else 1 + slot_place ss n) d))
    there true k l = refl
    there false k l = rw (one_plus (slot_place ss n)) (k (omega arith))

pub binding-nowhere : (ts : List (List ℕ)) (ss : List Slot) (n : ℕ)
    → Differ ts
    → length ss ≤ slot_place ss n
    → binding_of (bindings ts ss) (name_of ts n) ≡ None
binding-nowhere ts [] n f h = refl
binding-nowhere ts (s ∷ ss) n f h =
    rw (same-names ts s.name.number n f) (nowhere (nat_eq s.name.number n) (binding-nowhere ts ss n f) h)
  where
    nowhere : (t : Bool)
        → (length ss ≤ slot_place ss n → binding_of (bindings ts ss) (name_of ts n) ≡ None)
        → suc (length ss) ≤ (if t then 0 else 1 + slot_place ss n)
        → (if t then Some (binding_at ts s) else binding_of (bindings ts ss) (name_of ts n)) ≡ None
    nowhere true k l = absurd (omega arith)
    nowhere false k l = k (omega arith)

-- ---- calls

pub parameters-slots : (ts : List (List ℕ)) (i : ℕ) (ns : List NameId) (args : List Value)
    → bindings ts (slots_from i ns args) ≡ parameters_from i (texts_of ts ns) args
parameters-slots ts i [] args = refl
parameters-slots ts i (n ∷ ns) args =
    ap {B = List Binding}
    (λ bs. record { name = name_of ts n.number; constant = false; value = Some (argument args i) } ∷ bs)
    (parameters-slots ts (i + 1) ns args)

pub call-slots : (ts : List (List ℕ)) (ns : List NameId) (args : List Value) (ss all others : List Slot)
    → ss ≡ slots_from 0 ns args
    → all ≡ ss ++ others
    → bindings ts all ≡ parameters_from 0 (texts_of ts ns) args ++ bindings ts others
call-slots ts ns args ss all others e f =
    rw (f, e, bindings-append ts (slots_from 0 ns args) others, parameters-slots ts 0 ns args) refl

pub argument-at : (vs : List Value) (i : ℕ) (d : Value) → i < length vs → argument vs i ≡ get_or vs i d
argument-at [] i d h = absurd (omega arith)
argument-at (u ∷ vs) zero d h = refl
argument-at (u ∷ vs) (suc i) d h = argument-at vs i d (omega arith)

pub argument-past : (vs : List Value) (i : ℕ) → length vs ≤ i → argument vs i ≡ values.Undefined
argument-past [] i h = refl
argument-past (u ∷ vs) zero h = absurd (omega arith)
argument-past (u ∷ vs) (suc i) h = argument-past vs i (omega arith)

pub ruleset argument_rules = (argument-at, argument-past)

-- ---- what is found

pub look-there : (ts : List (List ℕ)) (ss : List Slot) (place n : ℕ) (d : Slot) (a : Addr) (further : Option Found)
    → Differ ts
    → place ≡ slot_place ss n
    → place < length ss
    → kept_found (found_here a (binding_of (bindings ts ss) (name_of ts n)) further) ≡ Some
    (record { scope = a; constant = (get_or ss place d).constant; value = (get_or ss place d).value })
look-there ts ss place n d a further f e h =
    let P : ℕ → Type 0 = λ i. i < length ss in
    let k : slot_place ss n < length ss = subst P e h in
    rw (e, binding-there ts ss n d f k) refl

pub look-outward : (ts : List (List ℕ)) (ss : List Slot) (place n : ℕ) (a : Addr) (further : Option Found)
    → Differ ts
    → place ≡ slot_place ss n
    → length ss ≤ place
    → kept_found (found_here a (binding_of (bindings ts ss) (name_of ts n)) further) ≡ kept_found further
look-outward ts ss place n a further f e h =
    let P : ℕ → Type 0 = λ i. length ss ≤ i in
    let k : length ss ≤ slot_place ss n = subst P e h in
    rw (binding-nowhere ts ss n f k) refl

pub place-there : (ts : List (List ℕ)) (ss : List Slot) (place n : ℕ)
    → Differ ts
    → place ≡ slot_place ss n
    → place < length ss
    → (place ≡ name_place (bindings ts ss) (name_of ts n)) × (place < length (bindings ts ss))
place-there ts ss place n f e h = (e ∙ sym (place-names ts ss n f), omega (arith, h, bindings-length ts ss))

-- ---- a value at a place

pub value-at : (ts : List (List ℕ)) (ss : List Slot) (n : ℕ) (v : Value)
    → Differ ts
    → bindings ts (with_value_at ss (slot_place ss n) v) ≡ bound (bindings ts ss) (name_of ts n) v
value-at ts [] n v f = refl
value-at ts (s ∷ ss) n v f = rw (same-names ts s.name.number n f) (at (nat_eq s.name.number n) (value-at ts ss n v f))
  where
    at : (t : Bool)
        → bindings ts (with_value_at ss (slot_place ss n) v) ≡ bound (bindings ts ss) (name_of ts n) v
        → bindings ts (with_value_at (s ∷ ss) (if t then 0 else 1 + slot_place ss n) v) ≡
        (if t then record (binding_at ts s) { value = Some v } ∷ bindings ts ss else binding_at ts s ∷ bound
        (bindings ts ss) (name_of ts n) v)
    at true e = refl
    at false e = rw (one_plus (slot_place ss n)) (ap {B = List Binding} (λ bs. binding_at ts s ∷ bs) e)

pub value-set : (ss : List Slot) (i : ℕ) (s : Slot) (v : Value)
    → i < length ss
    → get_or ss i s ≡ s
    → slice_set ss i (record s { value = Some v }) ≡ with_value_at ss i v
value-set [] i s v h e = absurd (omega arith)
value-set (r ∷ ss) zero s v h e = let f : r ≡ s = e in rw f refl
value-set (r ∷ ss) (suc i) s v h e = ap {B = List Slot} (λ rs. r ∷ rs) (value-set ss i s v (omega arith) e)

pub value-past : (ss : List Slot) (i : ℕ) (v : Value) → length ss ≤ i → with_value_at ss i v ≡ ss
value-past [] i v h = refl
value-past (r ∷ ss) zero v h = absurd (omega arith)
value-past (r ∷ ss) (suc i) v h = ap {B = List Slot} (λ rs. r ∷ rs) (value-past ss i v (omega arith))

pub ruleset value_rules = (value-set, value-past)
