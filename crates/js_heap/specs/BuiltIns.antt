-- The cells that each program begins with.
use Rattle.std.specs.Prelude.{ℕ, Bool, true, false, List, [], ◌∷◌, ◌++◌, map, Some, None, codes}
use Rattle.js_heap.specs.declared.value.Addr.{Addr}
use Rattle.js_heap.specs.declared.value.Addr.TheVariants.{Base}
use Rattle.js_heap.specs.declared.value.Value.{Value}
use Rattle.js_heap.specs.declared.value.Value.TheVariants as values
use Rattle.js_heap.specs.declared.built_in.BuiltIn.{BuiltIn}
use Rattle.js_heap.specs.declared.built_in.BuiltIn.TheVariants as built_ins
use Rattle.js_heap.specs.declared.built_in.ErrorClass.TheVariants as classes
use Rattle.js_heap.specs.declared.built_in.Code.TheVariants as code
use Rattle.js_heap.specs.declared.cell.Property.{Property}
use Rattle.js_heap.specs.declared.cell.Binding.{Binding}
use Rattle.js_heap.specs.declared.cell.ScopeKind.TheVariants as scopes
use Rattle.js_heap.specs.declared.cell.Cell.{Cell}
use Rattle.js_heap.specs.declared.cell.Cell.TheVariants as cells
use Rattle.js_heap.specs.World.{World, base_room}

-- where the global scope is, whose names are the built-in ones
abbrev pub global_scope : Addr
global_scope = Base 0

-- where the scope of the scripts' top-level names is
abbrev pub script_scope : Addr
script_scope = Base 1

-- the error of a heap that is full, which is made before the first step
abbrev pub heap_full_error : Addr
heap_full_error = Base 3

-- where each built-in function is: one for each, so an array's and a string's indexOf differ
abbrev pub built_in_at : BuiltIn → Addr
built_in_at built_ins.ConsoleLog = Base 7
built_in_at built_ins.ReadLine = Base 8
built_in_at (built_ins.MakeError classes.Error) = Base 9
built_in_at (built_ins.MakeError classes.TypeError) = Base 10
built_in_at (built_ins.MakeError classes.RangeError) = Base 11
built_in_at (built_ins.MakeError classes.ReferenceError) = Base 12
built_in_at built_ins.ObjectKeys = Base 13
built_in_at built_ins.ArrayIsArray = Base 14
built_in_at built_ins.MakeString = Base 15
built_in_at built_ins.ArrayPush = Base 16
built_in_at built_ins.ArrayPop = Base 17
built_in_at built_ins.ArrayIndexOf = Base 18
built_in_at built_ins.ArrayJoin = Base 19
built_in_at built_ins.ArraySlice = Base 20
built_in_at built_ins.StringIndexOf = Base 21
built_in_at built_ins.StringSlice = Base 22
built_in_at built_ins.StringCharCodeAt = Base 23

-- a built-in function as a value
abbrev pub function_value : BuiltIn → Value
function_value f = values.Object (built_in_at f)

-- a name of the global scope, which is constant
abbrev pub global_of : List ℕ → Value → Binding
global_of n v = record { name = n; constant = true; value = Some v }

-- the names of the global scope
abbrev globals : List Binding
globals =
    global_of (codes "undefined") values.Undefined
    ∷ global_of (codes "console") (values.Object (Base 4))
    ∷ global_of (codes "readline") (function_value built_ins.ReadLine)
    ∷ global_of (codes "Error") (function_value (built_ins.MakeError classes.Error))
    ∷ global_of (codes "TypeError") (function_value (built_ins.MakeError classes.TypeError))
    ∷ global_of (codes "RangeError") (function_value (built_ins.MakeError classes.RangeError))
    ∷ global_of (codes "ReferenceError") (function_value (built_ins.MakeError classes.ReferenceError))
    ∷ global_of (codes "Object") (values.Object (Base 5))
    ∷ global_of (codes "Array") (values.Object (Base 6))
    ∷ global_of (codes "String") (function_value built_ins.MakeString)
    ∷ []

-- the property `message` of an error, which isn't enumerable (20.5.1.1)
abbrev pub message_property : Value → Property
message_property v =
    record { key = codes "message"; value = v; writable = true; enumerable = false; configurable = true }

-- a property of a built-in object, which holds a built-in function
abbrev property : Bool → List ℕ → BuiltIn → Property
property enumerable key f =
    record { key = key; value = function_value f; writable = true; enumerable = enumerable; configurable = true }

-- the cell of a built-in function, with its name and its length
abbrev pub built_in_function : BuiltIn → List ℕ → ℕ → Cell
built_in_function f n arity = cells.Function (code.BuiltIn f) n arity None values.Undefined

-- the cells of the built-in functions, in the order of their addresses
abbrev functions : List Cell
functions =
    built_in_function built_ins.ConsoleLog (codes "log") 0
    ∷ built_in_function built_ins.ReadLine (codes "readline") 0
    ∷ built_in_function (built_ins.MakeError classes.Error) (codes "Error") 1
    ∷ built_in_function (built_ins.MakeError classes.TypeError) (codes "TypeError") 1
    ∷ built_in_function (built_ins.MakeError classes.RangeError) (codes "RangeError") 1
    ∷ built_in_function (built_ins.MakeError classes.ReferenceError) (codes "ReferenceError") 1
    ∷ built_in_function built_ins.ObjectKeys (codes "keys") 1
    ∷ built_in_function built_ins.ArrayIsArray (codes "isArray") 1
    ∷ built_in_function built_ins.MakeString (codes "String") 1
    ∷ built_in_function built_ins.ArrayPush (codes "push") 1
    ∷ built_in_function built_ins.ArrayPop (codes "pop") 0
    ∷ built_in_function built_ins.ArrayIndexOf (codes "indexOf") 1
    ∷ built_in_function built_ins.ArrayJoin (codes "join") 1
    ∷ built_in_function built_ins.ArraySlice (codes "slice") 2
    ∷ built_in_function built_ins.StringIndexOf (codes "indexOf") 1
    ∷ built_in_function built_ins.StringSlice (codes "slice") 2
    ∷ built_in_function built_ins.StringCharCodeAt (codes "charCodeAt") 1
    ∷ []

-- the built-in cells
abbrev pub built_in_cells : List Cell
built_in_cells =
    cells.Bindings scopes.Global [] None globals
    ∷ cells.Bindings scopes.Script [] (Some global_scope) []
    ∷ cells.Text (codes "Program heap is full")
    ∷ cells.Error classes.RangeError (message_property (values.Text (Base 2)) ∷ [])
    ∷ cells.Object (property true (codes "log") built_ins.ConsoleLog ∷ [])
    ∷ cells.Object (property false (codes "keys") built_ins.ObjectKeys ∷ [])
    ∷ cells.Object (property false (codes "isArray") built_ins.ArrayIsArray ∷ [])
    ∷ functions

-- the cells of string literals
abbrev pub literal_cells : List (List ℕ) → List Cell
literal_cells texts = map (λ units. cells.Text units) texts

-- the number of the first string literal's cell, behind the built-in cells
abbrev pub first_literal : ℕ
first_literal = 24

-- the world before the first step, for the string literals of the scripts; none of these cells counts
abbrev pub first_world : List (List ℕ) → World
first_world literals =
    record { base = built_in_cells ++ literal_cells literals; scratch = []; start = None; room = base_room }
