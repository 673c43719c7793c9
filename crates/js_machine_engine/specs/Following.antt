-- What becomes of the innermost task after its row.
use Rattle.std.specs.Prelude.{◌≡◌, ℕ, List, [], ◌∷◌, Option, Some, None}
use Rattle.js_machine_nodes.specs.declared.table.NodeTable.{NodeTable}
use Rattle.js_machine_engine.specs.declared.reduced.Reduced.{Reduced}
use Rattle.js_machine_engine.specs.declared.task.Point.{Point}
use Rattle.js_machine_engine.specs.declared.task.Extra.{Extra}
use Rattle.js_machine_engine.specs.declared.task.Extra.TheVariants as extras
use Rattle.js_machine_engine.specs.Gaps.{resettled}
use Rattle.js_machine_engine.specs.Tasks.{Wide, gaps_of}
use Rattle.js_machine_engine.specs.Points.{term_at}
use Rattle.js_machine_engine.specs.Stacks.{outer_of}
use Rattle.js_tree_operators.specs.declared.operator.BinaryOperator.{BinaryOperator}
use Rattle.js_machine_nodes.specs.declared.op.Op.{Op}
use Rattle.js_machine_nodes.specs.declared.op.Op.TheVariants as ops
use Rattle.js_heap.specs.declared.value.Addr.TheVariants.{Base}
use Rattle.js_machine_engine.specs.Answers.{assigning, operating, reduced_term}

-- the innermost task; where there is none a task that does nothing
abbrev pub innermost : List Wide → Wide
innermost [] = record { op = ops.This; info = 0; at = 0; mid = 0; end = 0; inner = Base 0; values = []; extra = None }
innermost (w ∷ ws) = w

-- in place of the innermost task stands what its row came to, and the forms around it that are finished gave way
abbrev pub Follows : List (List ℕ) → NodeTable → List Wide → Reduced → List Wide → Point → Type 0
Follows ts t ws r vs p = resettled (gaps_of ts t (outer_of ws)) (reduced_term ts t (innermost ws) r) ≡ term_at ts t vs p

-- a list with an index
abbrev pub HasTurn : Option Extra → Type 0
HasTurn (Some (extras.Turn list i)) = Unit {0}
HasTurn _ = ⊥

-- an object literal whose kept parts begin here, by what it does and owns
abbrev pub RestsAt : Op → Option Extra → ℕ → ℕ → Type 0
RestsAt ops.Object None mid from = from ≡ mid
RestsAt ops.ObjectRest (Some (extras.Rest n)) mid from = from ≡ n
RestsAt op e mid from = ⊥

-- a call whose callee is a reference
abbrev pub IsCallOf : Op → Type 0
IsCallOf ops.CallOfName = Unit {0}
IsCallOf ops.CallOfMember = Unit {0}
IsCallOf ops.CallOfIndex = Unit {0}
IsCallOf op = ⊥

-- a compound assignment
abbrev pub IsCompound : Op → Type 0
IsCompound (ops.CompoundName o) = Unit {0}
IsCompound (ops.CompoundMember o) = Unit {0}
IsCompound (ops.CompoundIndex o) = Unit {0}
IsCompound op = ⊥

-- a compound assignment is the assignment that follows it, of an operator
abbrev pub Compounds : Op → Op → BinaryOperator → Type 0
Compounds op assignment o = (assignment ≡ assigning op) × (ops.Binary o ≡ operating op) × IsCompound op
