-- Lemmas on names that were found.
use Rattle.std.proofs.Common.{◌≡◌, ℕ, Bool, true, false, List, Option, Some, None, refl, ◌∙◌, ap, sym, subst, ◌++◌}
use Rattle.std.specs.Prelude.{codes, is_some}
use Rattle.js_heap.specs.declared.value.Addr.{Addr}
use Rattle.js_heap.specs.declared.value.Value.{Value}
use Rattle.js_heap.specs.declared.built_in.ErrorClass.TheVariants as classes
use Rattle.js_heap.specs.declared.computed.Computed.{Computed}
use Rattle.js_heap.specs.declared.computed.Written.{Written}
use Rattle.js_heap.specs.declared.computed.Written.TheVariants.{Refused as refused}
use Rattle.js_heap.specs.World.{World}
use Rattle.js_semantics.specs.State.{State, with_world, Action, make_text, fail, give}
use Rattle.js_semantics.specs.References.{Found, value_of_found, name_written, not_defined, value_or_uninitialized, bound_unless, with_written}
use Rattle.js_semantics.specs.Rows.{type_of_found}
use Rattle.js_heap_memory.specs.declared.stored.FoundSlot.{FoundSlot}
use Rattle.js_heap_memory.specs.Calls.{KeptBinding, kept_slot, kept_found}
use Rattle.js_machine_actions.specs.declared.action_end.ActionEnd.{ActionEnd}
use Rattle.js_machine_actions.specs.Flow.{Stops, Ends}
use Rattle.js_machine_actions.specs.Names.{value_of_slot, slot_written, type_of_bound, type_of_slot}

-- ---- by what is kept

value_of_kept : List ℕ → Option KeptBinding → Computed
value_of_kept name None = not_defined name
value_of_kept name (Some f) = value_or_uninitialized name f.value

slot_value : (name : List ℕ) (o : Option FoundSlot) → value_of_slot name o ≡ value_of_kept name (kept_slot o)
unfolding value_of_kept
slot_value name None = refl
slot_value name (Some f) = refl

found_value : (name : List ℕ) (o : Option Found) → value_of_found name o ≡ value_of_kept name (kept_found o)
unfolding value_of_kept
found_value name None = refl
found_value name (Some f) = refl

pub value-kept : (name : List ℕ) (o : Option FoundSlot) (p : Option Found)
    → kept_slot o ≡ kept_found p
    → value_of_slot name o ≡ value_of_found name p
value-kept name o p e = slot_value name o ∙ ap (λ k. value_of_kept name k) e ∙ sym (found_value name p)

written_kept : List ℕ → Value → Option KeptBinding → Written
written_kept name v None = refused classes.ReferenceError (name ++ codes " is not defined")
written_kept name v (Some f) = bound_unless name f.constant f.value f.scope v

slot_is_written : (name : List ℕ) (o : Option FoundSlot) (v : Value)
    → slot_written name o v ≡ written_kept name v (kept_slot o)
unfolding written_kept
slot_is_written name None v = refl
slot_is_written name (Some f) v = refl

found_is_written : (name : List ℕ) (o : Option Found) (v : Value)
    → name_written name o v ≡ written_kept name v (kept_found o)
unfolding written_kept
found_is_written name None v = refl
found_is_written name (Some f) v = refl

pub written-kept : (name : List ℕ) (o : Option FoundSlot) (p : Option Found) (v : Value)
    → kept_slot o ≡ kept_found p
    → slot_written name o v ≡ name_written name p v
written-kept name o p v e =
    slot_is_written name o v ∙ ap (λ k. written_kept name v k) e ∙ sym (found_is_written name p v)

type_of_kept : World → List ℕ → Option KeptBinding → Action
type_of_kept w name None = make_text (codes "undefined") give
type_of_kept w name (Some f) = type_of_bound w name f.value

slot_type : (w : World) (name : List ℕ) (o : Option FoundSlot)
    → type_of_slot w name o ≡ type_of_kept w name (kept_slot o)
unfolding type_of_kept
slot_type w name None = refl
slot_type w name (Some f) = refl

found_type : (w : World) (name : List ℕ) (o : Option Found)
    → type_of_found w name o ≡ type_of_kept w name (kept_found o)
unfolding type_of_kept
found_type w name None = refl
found_type w name (Some f) = refl

pub type-kept : (w : World) (name : List ℕ) (o : Option FoundSlot) (p : Option Found)
    → kept_slot o ≡ kept_found p
    → type_of_slot w name o ≡ type_of_found w name p
type-kept w name o p e = slot_type w name o ∙ ap (λ k. type_of_kept w name k) e ∙ sym (found_type w name p)

pub ruleset kept_rules = (value-kept, written-kept, type-kept)

-- ---- assigning to a constant

bound_constant : (name : List ℕ) (b : Bool) (o : Option Value) (a : Addr) (v : Value)
    → is_some o ≡ true
    → b ≡ true
    → bound_unless name b o a v ≡ refused classes.TypeError (codes "Assignment to constant variable.")
bound_constant name true (Some u) a v p q = refl
bound_constant name false (Some u) a v p q = cc
bound_constant name b None a v p q = cc

pub constant-fails : (name : List ℕ) (o : Option FoundSlot) (f : FoundSlot) (v : Value) (x w : World) (e : ActionEnd)
    → o ≡ Some f
    → is_some f.value ≡ true
    → f.constant ≡ true
    → Ends (fail classes.TypeError (codes "Assignment to constant variable.")) x e w →
    (s : State) (k : Action) → Stops (with_written (slot_written name o v) k) (with_world s x) e (with_world s w)
constant-fails name o f v x w e i p q h = λ s k.
    let r : slot_written name o v ≡ refused classes.TypeError (codes "Assignment to constant variable.") = ap
    (λ y. slot_written name y v) i
    ∙ bound_constant name f.constant f.value f.scope v p q in
    let P : Written → Type 0 = λ y. Stops (with_written y k) (with_world s x) e (with_world s w) in
    subst P (sym r) (h s)
