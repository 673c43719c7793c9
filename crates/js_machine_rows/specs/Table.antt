-- The rows of the table of steps, by what each is told of and what it answers.
use Rattle.std.specs.Prelude.{◌≡◌, ℕ, List, Option}
use Rattle.js_heap.specs.declared.value.Addr.{Addr}
use Rattle.js_heap.specs.declared.value.Value.{Value}
use Rattle.js_heap.specs.World.{World}
use Rattle.js_machine_actions.specs.Contexts.{Context, state_of}
use Rattle.js_machine_nodes.specs.declared.op.Op.{Op}
use Rattle.js_machine_nodes.specs.declared.op.Op.TheVariants as ops
use Rattle.js_machine_nodes.specs.declared.table.NodeTable.{NodeTable}
use Rattle.js_machine_engine.specs.declared.code.RunningCode.{RunningCode}
use Rattle.js_machine_engine.specs.declared.reduced.Reduced.{Reduced}
use Rattle.js_machine_engine.specs.declared.task.Extra.{Extra}
use Rattle.js_machine_engine.specs.declared.task.Redex.{Redex}
use Rattle.js_machine_engine.specs.Rows.{redex, RowOf}

-- whatever the scope around it, and behind any texts that were taken
abbrev pub IsRow : List (List ℕ)
    → NodeTable
    → Redex
    → List Value
    → Option Extra
    → World
    → Context
    → Reduced
    → World
    → Context
    → Type 0
IsRow ts t form vs x v c r w d =
    (outer : Addr) (before : List (List ℕ))
    → RowOf ts t (redex form vs x) outer (state_of v c before) r (state_of w d before)

-- the answer is the row's for any table, names and values, in every state
abbrev pub IsRowAnywhere : Redex → Option Extra → Reduced → Type 0
IsRowAnywhere form x r =
    (ts : List (List ℕ)) (t : NodeTable) (vs : List Value) (v : World) (c : Context) → IsRow ts t form vs x v c r v c

-- the answer is the row's by code that runs, in a world that is seen so with its names
abbrev pub IsRowOf : {S : Type 0}
    → (List (List ℕ) → S → World)
    → RunningCode
    → Redex
    → List Value
    → Option Extra
    → S
    → Context
    → Reduced
    → S
    → Context
    → Type 0
IsRowOf see code form vs x old c r new d =
    IsRow code.names.now code.table.now form vs x (see code.names.now old) c r (see code.names.now new) d

-- so in every context, which stays
abbrev pub IsRowOver : {S : Type 0}
    → (List (List ℕ) → S → World)
    → RunningCode
    → Redex
    → List Value
    → Option Extra
    → S
    → Reduced
    → S
    → Type 0
IsRowOver see code form vs x old r new = (c : Context) → IsRowOf see code form vs x old c r new c

-- of a turn of a `for .. of`, whatever its list and its index
abbrev pub IsTurnDone : NodeTable → Redex → List Value → Reduced → Type 0
IsTurnDone t form vs r =
    (ts : List (List ℕ)) (x : Option Extra) (v : World) (c : Context)
    → form.op ≡ ops.BodyOf
    → IsRow ts t form vs x v c r v c

-- ---- forms that share a row's beginning

-- a call, or one whose callee is still read
abbrev pub IsCalling : Op → Type 0
IsCalling ops.Call = Unit {0}
IsCalling ops.CallOfName = Unit {0}
IsCalling ops.CallOfMember = Unit {0}
IsCalling ops.CallOfIndex = Unit {0}
IsCalling op = ⊥

-- an assignment with an operator
abbrev pub IsCompound : Op → Type 0
IsCompound (ops.CompoundName o) = Unit {0}
IsCompound (ops.CompoundMember o) = Unit {0}
IsCompound (ops.CompoundIndex o) = Unit {0}
IsCompound op = ⊥
