-- The arguments of a call (ECMA-262, 10.2.1).
use Rattle.std.specs.Prelude.{ℕ, zero, suc, ◌+◌, false, List, [], ◌∷◌, Some}
use Rattle.js_heap.specs.declared.value.Value.{Value}
use Rattle.js_heap.specs.declared.value.Value.TheVariants as values
use Rattle.js_heap.specs.declared.cell.Binding.{Binding}

-- missing arguments are undefined
abbrev pub argument : List Value → ℕ → Value
argument [] i = values.Undefined
argument (v ∷ vs) zero = v
argument (v ∷ vs) (suc i) = argument vs i

-- parameters with their arguments
abbrev pub parameters_from : ℕ → List (List ℕ) → List Value → List Binding
parameters_from i [] args = []
parameters_from i (n ∷ ns) args =
    record { name = n; constant = false; value = Some (argument args i) } ∷ parameters_from (i + 1) ns args
