-- The index of a source: for each node of the source the number of a function's entry, counted from 1.
use Rattle.std.specs.Prelude.{◌≡◌, ℕ, List, [], ◌∷◌, Option, Some, None, slice_get, unwrap_or, nat_eq, nat_lt, if◌then◌else◌}
use Rattle.js_semantics.specs.Functions.{FunctionCode, first_code, function_in}
use Rattle.js_machine_nodes.specs.declared.op.Op.{Op}
use Rattle.js_machine_nodes.specs.declared.op.Op.TheVariants as ops
use Rattle.js_machine_nodes.specs.declared.node.Node.{Node}
use Rattle.js_machine_nodes.specs.declared.node.FunctionEntry.{FunctionEntry}
use Rattle.js_machine_nodes.specs.declared.node.SourceEntry.{SourceEntry}
use Rattle.js_machine_nodes.specs.declared.table.NodeTable.{NodeTable}
use Rattle.js_machine_nodes.specs.Trees.{tree}
use Rattle.js_machine_nodes.specs.Codes.{code_of_number, indexed_code}

-- the number of a node; 0 where it has none
abbrev pub number_at : List ℕ → ℕ → ℕ
number_at index x = unwrap_or (slice_get index x) 0

-- the node in its source of the function of an entry, if there is one
abbrev pub node_of : Option FunctionEntry → Option ℕ
node_of (Some e) = Some e.node
node_of None = None

-- the node in its source of the function of an entry, where it has a body
abbrev pub body_node : NodeTable → Node → Option ℕ
body_node t node = if nat_lt node.mid node.end then node_of (slice_get t.functions.items node.info) else None

-- a function's or a method's node in its source; anything else has none
abbrev pub function_node_by : Op → Option ℕ → Option ℕ
function_node_by ops.Function at = at
function_node_by ops.Method at = at
function_node_by op at = None

-- the node in its source of the function that a node is, where it has a body
abbrev pub function_node : NodeTable → Node → Option ℕ
function_node t node = function_node_by node.op (body_node t node)

-- the number of a node once another is put where there is a place
abbrev pub number_with : Option ℕ → ℕ → List ℕ → ℕ → ℕ
number_with None number index x = number_at index x
number_with (Some at) number index x = if nat_eq at x then number else number_at index x

-- the function that an index has for a node
abbrev pub code_found : List (List ℕ) → NodeTable → List ℕ → ℕ → Option FunctionCode
code_found ts t index x = code_of_number ts t (Some (number_at index x))

-- an index with the functions of a node's tree before those that it had
abbrev pub IsFilled : NodeTable → ℕ → List ℕ → List ℕ → Type 0
IsFilled t n old new =
    (ts : List (List ℕ)) (x : ℕ)
    → code_found ts t new x ≡ first_code (function_in x (tree ts t n)) (code_found ts t old x)

-- a source with its index
pub record IsIndexed (t : NodeTable) (s e : SourceEntry) : Type 0 where
  pub source : e.source ≡ s.source
  pub root : e.root ≡ s.root
  pub finds : (ts : List (List ℕ)) (x : ℕ) → function_in x (tree ts t e.root) ≡ indexed_code ts t e x

-- some sources, each with its index
abbrev pub AreIndexed : NodeTable → List SourceEntry → List SourceEntry → Type 0
AreIndexed t [] [] = Unit {0}
AreIndexed t (s ∷ ss) (e ∷ es) = IsIndexed t s e × AreIndexed t ss es
AreIndexed t [] (e ∷ es) = ⊥
AreIndexed t (s ∷ ss) [] = ⊥
