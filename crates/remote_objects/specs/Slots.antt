-- Properties as they are written.
use Rattle.std.specs.Prelude.{ℕ, List}
use Rattle.js_heap.specs.declared.value.Value.{Value}
use Rattle.js_heap_parts.specs.Parts.{CellPart}
use Rattle.remote_objects.specs.Previews.{PreviewedProperty, entry}
use Rattle.remote_objects.specs.declared.slots.Flags.{Flags}
use Rattle.remote_objects.specs.Descriptors.{Content, a_value, a_text, FlaggedProperty}

-- a property of this name and content with its flags
abbrev pub slot_with : List ℕ → Content → Flags → FlaggedProperty
slot_with name content flags =
    record {
      name = name;
      content = content;
      writable = flags.writable;
      enumerable = flags.enumerable;
      configurable = flags.configurable;
    }

-- the slot of a part of a cell
abbrev pub part_slot : CellPart → FlaggedProperty
part_slot p =
    record {
      name = p.key;
      content = a_value p.value;
      writable = p.writable;
      enumerable = p.enumerable;
      configurable = p.configurable;
    }

-- a part of a cell as an entry of a preview
abbrev pub part_entry : CellPart → PreviewedProperty
part_entry p = entry p.key p.value

-- the slot of a property that holds a value
abbrev pub value_slot : List ℕ → Value → Flags → FlaggedProperty
value_slot name value flags = slot_with name (a_value value) flags

-- the slot of a property that holds a text without a cell
abbrev pub text_slot : List ℕ → List ℕ → Flags → FlaggedProperty
text_slot name units flags = slot_with name (a_text units) flags
