-- The own properties of what a handle stands for (Chrome DevTools Protocol 1.3, `Runtime.PropertyDescriptor`), in the
-- order of ECMA-262, 10.1.11.
use Rattle.std.specs.Prelude.{ℕ, ◌+◌, Bool, true, false, not, List, [], ◌∷◌, ◌++◌, map, codes, decimal, Option, Some, None, pos}
use Rattle.js_heap.specs.declared.cell.Binding.{Binding}
use Rattle.js_heap.specs.declared.cell.Cell.{Cell}
use Rattle.js_heap.specs.declared.cell.Cell.TheVariants as cells
use Rattle.js_heap.specs.declared.cell.Property.{Property}
use Rattle.js_heap.specs.declared.value.Value.{Value}
use Rattle.js_heap.specs.declared.value.Value.TheVariants as values
use Rattle.js_heap.specs.World.{World, read_cell}
use Rattle.object_groups.specs.declared.handle.Target.{Target}
use Rattle.object_groups.specs.declared.handle.Target.TheVariants as targets
use Rattle.object_groups.specs.Handles as handles
use Rattle.cdp_json.specs.Json.{Json, boolean, text}
use Rattle.cdp_json.specs.Parts.{object_of}
use Rattle.remote_objects.specs.Sights.{Sight}
use Rattle.remote_objects.specs.Values.{text_pairs}
use Rattle.remote_objects.specs.declared.detail.Detail.{Detail}
use Rattle.remote_objects.specs.Making.{Made, made_all}
use Rattle.remote_objects.specs.Remote.{remote_with}

-- what a property holds: a value, or a text that has no cell of its own
pub data Content : Type 0 where
  a_value : Value → Content
  a_text : List ℕ → Content

-- a property with its flags
pub record FlaggedProperty : Type 0 where
  pub name : List ℕ
  pub content : Content
  pub writable : Bool
  pub enumerable : Bool
  pub configurable : Bool

-- ---- objects

-- a property of an object, with its flags
abbrev pub property_slot : Property → FlaggedProperty
property_slot p =
    record {
      name = p.key;
      content = a_value p.value;
      writable = p.writable;
      enumerable = p.enumerable;
      configurable = p.configurable;
    }

-- the length of an array, which can be written alone
abbrev pub array_length : ℕ → FlaggedProperty
array_length n =
    record {
      name = codes "length";
      content = a_value
          (values.Number (pos n));
      writable = true;
      enumerable = false;
      configurable = false;
    }

-- an element of an array, which can be changed in every way
abbrev pub element_slot : ℕ → Value → FlaggedProperty
element_slot i v =
    record { name = decimal i; content = a_value v; writable = true; enumerable = true; configurable = true }

-- the elements of an array from an index on, then its length
abbrev pub elements_from : ℕ → List Value → List FlaggedProperty
elements_from i [] = array_length i ∷ []
elements_from i (v ∷ vs) = element_slot i v ∷ elements_from (i + 1) vs

-- the length and the name of a function, which can be configured alone
abbrev pub fixed_slot : List ℕ → Content → FlaggedProperty
fixed_slot name content =
    record { name = name; content = content; writable = false; enumerable = false; configurable = true }

-- the slots of a function of this length and name
abbrev pub function_slots : ℕ → List ℕ → List FlaggedProperty
function_slots len name =
    fixed_slot (codes "length") (a_value (values.Number (pos len))) ∷ fixed_slot (codes "name") (a_text name) ∷ []

-- what isn't an object has none
abbrev pub object_slots : Option Cell → List FlaggedProperty
object_slots (Some (cells.Object ps)) = map property_slot ps
object_slots (Some (cells.Error class ps)) = map property_slot ps
object_slots (Some (cells.Array vs)) = elements_from 0 vs
object_slots (Some (cells.Function code name len scope receiver)) = function_slots len name
object_slots cell = []

-- ---- scopes

-- a name that has a value; a constant one can't be written
abbrev pub binding_slots : List ℕ → Bool → Option Value → List FlaggedProperty
binding_slots name constant None = []
binding_slots name constant (Some v) =
    record { name = name; content = a_value v; writable = not constant; enumerable = true; configurable = true } ∷ []

-- names, in order
abbrev pub names_slots : List Binding → List FlaggedProperty
names_slots [] = []
names_slots (b ∷ bs) = binding_slots b.name b.constant b.value ++ names_slots bs

-- the names of a scope that have a value; another cell has none
abbrev pub scope_slots : Option Cell → List FlaggedProperty
scope_slots (Some (cells.Bindings kind name outer names)) = names_slots names
scope_slots cell = []

-- the slots of a target, an object or a scope
abbrev pub slots_of : World → Target → List FlaggedProperty
slots_of w (targets.Object a) = object_slots (read_cell w a)
slots_of w (targets.Scope a) = scope_slots (read_cell w a)

-- ---- descriptors

-- what a property holds, as a remote object
abbrev pub content_made : Sight → Detail → Option (List ℕ) → Content → handles.HeldHandles → Made Json
content_made s detail group (a_value v) h = remote_with s detail group v h
content_made s detail group (a_text units) h = record { made = object_of (text_pairs units); handles = h }

-- a property with what its value is described as
abbrev pub descriptor_of : FlaggedProperty → Json → Json
descriptor_of p value = object_of (
    (codes "configurable", boolean p.configurable)
    ∷ (codes "enumerable", boolean p.enumerable)
    ∷ (codes "isOwn", boolean true)
    ∷ (codes "name", text p.name)
    ∷ (codes "value", value)
    ∷ (codes "writable", boolean p.writable) ∷ [])

-- a property, described
abbrev pub descriptor : Sight → Detail → Option (List ℕ) → FlaggedProperty → handles.HeldHandles → Made Json
descriptor s detail group p h =
    record {
      made = descriptor_of p
          (content_made s detail group p.content h).made;
      handles = (content_made s detail group p.content h).handles;
    }

-- the properties of a target, in order, with or without previews of their values; new handles are in this group or in
-- none
abbrev pub descriptors_with : Sight → Detail → Option (List ℕ) → Target → handles.HeldHandles → Made (List Json)
descriptors_with s detail group target h = made_all (descriptor s detail group) (slots_of s.world target) h
