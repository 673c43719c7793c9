-- Names looked up in scopes, from a scope outward (ECMA-262, 9.1.2.1).
use Rattle.std.specs.Prelude.{ℕ, zero, suc, ◌+◌, List, length, Option, Some, None}
use Rattle.js_heap.specs.declared.value.Addr.{Addr}
use Rattle.js_heap.specs.declared.cell.Binding.{Binding}
use Rattle.js_heap.specs.declared.cell.Cell.{Cell}
use Rattle.js_heap.specs.declared.cell.Cell.TheVariants as cells
use Rattle.js_heap.specs.Cells.{binding_of}
use Rattle.js_heap.specs.World.{World, read_cell}

-- the scope that has a name, and the name's binding
pub record Found : Type 0 where
  pub scope : Addr
  pub binding : Binding

-- the binding that a scope has of a name, or else what is found further outward
abbrev pub found_here : Addr → Option Binding → Option Found → Option Found
found_here a (Some b) further = Some (record { scope = a; binding = b })
found_here a None further = further

-- what is found from the outer scope on; nothing where there is none
abbrev pub found_outward : Option Addr → (Addr → Option Found) → Option Found
found_outward None further = None
found_outward (Some a) further = further a

-- what is found from the scope of this cell on
abbrev pub found_in : Addr → Option Cell → List ℕ → (Addr → Option Found) → Option Found
found_in a (Some (cells.Bindings k n outer ns)) name further =
    found_here a (binding_of ns name) (found_outward outer further)
found_in a _ name further = None

-- from the scope at an address outward; no chain of scopes is longer than the cells are many
abbrev pub found_within : ℕ → World → List ℕ → Addr → Option Found
found_within zero w name a = None
found_within (suc n) w name a = found_in a (read_cell w a) name (found_within n w name)

-- the binding of a name in the first scope that has it, from one scope outward
abbrev pub found : World → Addr → List ℕ → Option Found
found w scope name = found_within (length w.base + length w.scratch) w name scope
