-- Units that are taken and given back.
use Rattle.std.specs.Prelude.{◌≡◌, ◌<◌, ◌+◌, ℕ, Result, Ok, Err}
use Rattle.js_heap.specs.declared.change.Counted.TheVariants as counted
use Rattle.js_heap_memory.specs.declared.world.Refused.{Refused}
use Rattle.js_heap_memory.specs.declared.world.Refused.TheVariants.{Effect, Full, Memory}

-- what is left with the units that were taken makes up what there was; or there are fewer
abbrev pub Taken : ℕ → ℕ → Result ℕ Refused → Type 0
Taken there units (Ok left) = units + left ≡ there
Taken there units (Err (Full counted.Units)) = there < units
Taken there units (Err (Full counted.Cells)) = ⊥
Taken there units (Err Effect) = ⊥
Taken there units (Err Memory) = ⊥

-- what is left once units are given back; want of memory says nothing
abbrev pub GivenBack : ℕ → ℕ → Result ℕ Refused → Type 0
GivenBack there units (Ok left) = left ≡ there + units
GivenBack there units (Err Memory) = Unit {0}
GivenBack there units (Err Effect) = ⊥
GivenBack there units (Err (Full what)) = ⊥
