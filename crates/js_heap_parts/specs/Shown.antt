-- What is seen of the parts that the code lends.
use Rattle.std.specs.Prelude.{ℕ, List, decimal}
use Rattle.js_heap_memory.specs.Names.{name_of}
use Rattle.js_heap_parts.specs.Parts.{CellPart}
use Rattle.js_heap_parts.specs.declared.key.Key.{Key}
use Rattle.js_heap_parts.specs.declared.key.Key.TheVariants as keys
use Rattle.js_heap_parts.specs.declared.part.Part.{Part}

-- the text of a key
abbrev pub key_text : Key → List ℕ
key_text (keys.Index i) = decimal i
key_text (keys.Name text) = text.now
key_text (keys.Known name) = name_of name.names.now name.id.number

-- a part with the text of its key
abbrev pub part_shown : Part → CellPart
part_shown p =
    record {
      key = key_text p.key;
      value = p.value;
      enumerable = p.enumerable;
      writable = p.writable;
      configurable = p.configurable;
    }
