-- Functions made of the parts that code keeps of them.
use Rattle.std.specs.Prelude.{ℕ, true, List, [], ◌∷◌, Some}
use Rattle.js_heap.specs.declared.value.Addr.{Addr}
use Rattle.js_heap.specs.declared.value.Value.{Value}
use Rattle.js_heap.specs.declared.value.Value.TheVariants as values
use Rattle.js_heap.specs.declared.built_in.Code.{Code}
use Rattle.js_heap.specs.declared.cell.ScopeKind.TheVariants as scopes
use Rattle.js_heap.specs.declared.cell.Cell.{Cell}
use Rattle.js_heap.specs.declared.cell.Cell.TheVariants as cells
use Rattle.js_heap.specs.declared.change.Change.TheVariants as changes
use Rattle.js_heap.specs.Cells.{declared}
use Rattle.js_semantics.specs.State.{Action, make, write, give}

-- a function whose code is there, with so many parameters
abbrev pub function_of : Code → ℕ → List ℕ → Addr → Value → Cell
function_of code count name scope receiver = cells.Function code name count (Some scope) receiver

-- a function expression with a name is made, in a scope of that name, as by `named_function`
abbrev pub named_of : Code → ℕ → List ℕ → Addr → Action
named_of code count name scope =
    make (cells.Bindings scopes.Named name (Some scope) (declared name true ∷ []))
    (λ s. make (function_of code count name s values.Undefined)
    (λ a. write s (changes.Bind name (values.Object a)) (give (values.Object a))))

-- a declared function is made, the value of its name; as one step of `with_functions`
abbrev pub declared_function : Addr → Code → ℕ → List ℕ → Action → Action
declared_function scope code count name k =
    make (function_of code count name scope values.Undefined) (λ a. write scope (changes.Bind name (values.Object a)) k)
