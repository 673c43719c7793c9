-- The index of a table of names.
use Rattle.std.specs.Prelude.{◌≡◌, ℕ, List, nat_eq}
use Rattle.std.specs.HashMap.{HashMap, get_by}
use Rattle.std.specs.Cmp.Lexicographic.{pointwise}
use Rattle.std.specs.declared.vec.Vec.{Vec}
use Rattle.js_heap_memory.specs.Names.{Differ, number_of}

-- the index finds the texts of a table by their numbers, and no text stands twice
pub record IsIndexed {Z S : Type 0} (ts : List (List ℕ)) (m : HashMap (Vec ℕ Z) ℕ S) : Type 0 where
  pub finds : (text : List ℕ) → get_by (λ k. pointwise nat_eq text k.items) m ≡ number_of ts text
  pub differ : Differ ts
