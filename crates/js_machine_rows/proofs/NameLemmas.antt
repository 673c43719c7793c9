-- Lemmas on names that rows look for.
use Rattle.std.proofs.Common.{◌≡◌, ℕ, Bool, true, false, List, Option, Some, None, refl, sym, ap, ◌∙◌}
use Rattle.std.specs.Prelude.{is_some, not, ◌&&◌, if◌then◌else◌}
use Rattle.js_heap.specs.declared.value.Value.{Value}
use Rattle.js_heap.specs.declared.value.Addr.{Addr}
use Rattle.js_heap.specs.declared.change.Change.TheVariants as changes
use Rattle.js_heap.specs.declared.computed.Computed.TheVariants.{Value as a_value}
use Rattle.js_heap.specs.declared.computed.Written.TheVariants.{Change as a_change}
use Rattle.js_semantics.specs.References.{Found, name_written, bound_unless, value_of_found, value_or_uninitialized}
use Rattle.js_heap_memory.specs.declared.stored.FoundSlot.{FoundSlot}
use Rattle.js_heap_memory.specs.Calls.{kept_slot, kept_found}
use Rattle.js_machine_actions.specs.Names.{value_of_slot}
use Rattle.js_machine_actions.proofs.NameLemmas.{written-kept, value-kept}
use Rattle.js_machine_rows.specs.Quick.{open_slot}

bound_open : (name : List ℕ) (b : Bool) (o : Option Value) (a : Addr) (v : Value)
    → (is_some o && not b) ≡ true
    → bound_unless name b o a v ≡ a_change a (changes.Bind name v)
bound_open name b None a v h = cc
bound_open name true (Some u) a v h = cc
bound_open name false (Some u) a v h = refl

open_if : (b : Bool) (f g : FoundSlot) → (if b then Some f else None) ≡ Some g → (b ≡ true) × (f ≡ g)
open_if true f g h = (refl, cc)
open_if false f g h = cc

-- a name that may be given a value is given it
pub open-written : (name : List ℕ) (o : Option FoundSlot) (p : Option Found) (f : FoundSlot) (v : Value)
    → kept_slot o ≡ kept_found p
    → open_slot o ≡ Some f
    → name_written name p v ≡ a_change f.scope (changes.Bind name v)
open-written name None p f v e h = cc
open-written name (Some g) p f v e h =
    let i = open_if (is_some g.value && not g.constant) g f h in
    sym (written-kept name (Some g) p v e)
    ∙ bound_open name g.constant g.value g.scope v i.0
    ∙ ap (λ (x : FoundSlot). a_change x.scope (changes.Bind name v)) i.1

-- and it has a value
open_value : (name : List ℕ) (o : Option FoundSlot) (f : FoundSlot) (u : Value)
    → open_slot o ≡ Some f
    → f.value ≡ Some u
    → value_of_slot name o ≡ a_value u
open_value name None f u h g = cc
open_value name (Some x) f u h g =
    let i = open_if (is_some x.value && not x.constant) x f h in
    ap (λ (y : FoundSlot). value_or_uninitialized name y.value) i.1 ∙ ap (λ y. value_or_uninitialized name y) g

pub open-value : (name : List ℕ) (o : Option FoundSlot) (p : Option Found) (f : FoundSlot) (u : Value)
    → kept_slot o ≡ kept_found p
    → open_slot o ≡ Some f
    → f.value ≡ Some u
    → value_of_found name p ≡ a_value u
open-value name o p f u e h g = sym (value-kept name o p e) ∙ open_value name o f u h g
