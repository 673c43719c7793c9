-- What a value is described as (Chrome DevTools Protocol 1.3, `Runtime.RemoteObject`), but for the id of its handle.
use Rattle.std.specs.Prelude.{ℕ, ℤ, Bool, List, [], ◌∷◌, ◌++◌, length, codes, decimal, Option, Some, None}
use Rattle.std.specs.Fmt.{signed_decimal}
use Rattle.js_tree.specs.declared.script.Script.{Script}
use Rattle.js_tree.specs.Scripts.{script_numbered}
use Rattle.js_tree.specs.Spans.{span_of, units_in}
use Rattle.js_heap.specs.declared.built_in.Code.{Code}
use Rattle.js_heap.specs.declared.built_in.Code.TheVariants as codes_of
use Rattle.js_heap.specs.declared.cell.Cell.{Cell}
use Rattle.js_heap.specs.declared.cell.Cell.TheVariants as cells
use Rattle.js_heap.specs.declared.value.Value.{Value}
use Rattle.js_heap.specs.declared.value.Value.TheVariants as values
use Rattle.js_heap.specs.Values.{units_at, class_text, cell_text}
use Rattle.js_heap.specs.World.{read_cell}
use Rattle.cdp_json.specs.Json.{null, boolean, number, text}
use Rattle.cdp_json.specs.Parts.{Pair}
use Rattle.remote_objects.specs.Sights.{Sight}

-- ---- functions

-- the source of a node of a script; of no script it is empty
abbrev pub node_source : Option Script → ℕ → List ℕ
node_source None node = []
node_source (Some s) node = units_in (span_of s.spans node) s.source

-- what is shown of a function without a source (ECMA-262, 20.2.3.5)
abbrev pub native_text : List ℕ → List ℕ
native_text name = codes "function " ++ (name ++ codes "() { [native code] }")

-- the source of a function: that of its node, in its script or in the text of the evaluation that made it
abbrev pub function_text : Sight → Code → List ℕ → List ℕ
function_text s (codes_of.Script n node) name = node_source (script_numbered s.scripts n) node
function_text s (codes_of.Kept at node) name = s.node_text (units_at s.world at) node
function_text s (codes_of.BuiltIn f) name = native_text name

-- ---- objects

-- what is shown of an array of this length
abbrev pub array_text : ℕ → List ℕ
array_text n = codes "Array(" ++ (decimal n ++ codes ")")

-- an object: its class, what is shown of it, and a subtype where it has one
abbrev pub object_pairs : List ℕ → List ℕ → List Pair → List ℕ → List Pair
object_pairs class shown subtype type =
    (codes "className", text class) ∷ (codes "description", text shown) ∷ subtype ++ (codes "type", text type) ∷ []

-- the member that names a subtype
abbrev pub subtyped : List ℕ → List Pair
subtyped name = (codes "subtype", text name) ∷ []

-- a plain object, a scope among them
abbrev pub plain_pairs : List Pair
plain_pairs = object_pairs (codes "Object") (codes "Object") [] (codes "object")

-- a cell as an object
abbrev pub cell_pairs : Sight → Option Cell → List Pair
cell_pairs s (Some (cells.Error class ps)) =
    object_pairs (class_text class) (cell_text s.world (Some (cells.Error class ps))) (subtyped (codes "error"))
    (codes "object")
cell_pairs s (Some (cells.Array vs)) =
    object_pairs (codes "Array") (array_text (length vs)) (subtyped (codes "array")) (codes "object")
cell_pairs s (Some (cells.Function code name len scope receiver)) =
    object_pairs (codes "Function") (function_text s code name) [] (codes "function")
cell_pairs s cell = plain_pairs

-- ---- primitive values

-- undefined has no value in JSON
abbrev pub undefined_pairs : List Pair
undefined_pairs = (codes "type", text (codes "undefined")) ∷ []

-- null is of the type of objects
abbrev pub null_pairs : List Pair
null_pairs = subtyped (codes "null") ++ (codes "type", text (codes "object")) ∷ (codes "value", null) ∷ []

-- a text of these units
abbrev pub text_pairs : List ℕ → List Pair
text_pairs units = (codes "type", text (codes "string")) ∷ (codes "value", text units) ∷ []

-- a truth value
abbrev pub truth_pairs : Bool → List Pair
truth_pairs b = (codes "type", text (codes "boolean")) ∷ (codes "value", boolean b) ∷ []

-- a number, with its decimal text
abbrev pub number_pairs : ℤ → List Pair
number_pairs z =
    (codes "description", text (signed_decimal z)) ∷ (codes "type", text (codes "number")) ∷ (codes "value", number z)
    ∷ []

-- a value; what is said of an object is behind its address
abbrev pub value_pairs : Sight → Value → List Pair
value_pairs s values.Undefined = undefined_pairs
value_pairs s values.Null = null_pairs
value_pairs s (values.Bool b) = truth_pairs b
value_pairs s (values.Number z) = number_pairs z
value_pairs s (values.Text a) = text_pairs (units_at s.world a)
value_pairs s (values.Object a) = cell_pairs s (read_cell s.world a)
