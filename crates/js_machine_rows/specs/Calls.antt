-- Calls, by what code keeps of a callee.
use Rattle.std.specs.Prelude.{◌≡◌, ℕ, List, ◌++◌, drop, length, Option, Some, None, nat_lt, if◌then◌else◌}
use Rattle.js_heap.specs.declared.value.Addr.{Addr}
use Rattle.js_heap.specs.declared.value.Value.{Value}
use Rattle.js_heap.specs.declared.built_in.Code.{Code}
use Rattle.js_heap.specs.declared.cell.Cell.{Cell}
use Rattle.js_heap.specs.declared.cell.Cell.TheVariants as cells
use Rattle.js_heap.specs.declared.cell.ScopeKind.TheVariants as scopes
use Rattle.js_heap.specs.World.{World}
use Rattle.js_semantics.specs.State.{State, Action, Frame}
use Rattle.js_semantics.specs.Functions.{Program, FunctionCode, new_scope, with_functions, parameters_from, frame_entered, entered, frame_limit, too_deep, not_a_function, call_cell}
use Rattle.js_semantics.specs.declared.form.Mark.TheVariants.{Start as at_start}
use Rattle.js_semantics.specs.declared.form.Source.{Source}
use Rattle.js_heap_memory.specs.Cells.{name_text}
use Rattle.js_machine_nodes.specs.declared.table.NodeTable.{NodeTable}
use Rattle.js_machine_nodes.specs.declared.node.FunctionEntry.{FunctionEntry}
use Rattle.js_machine_nodes.specs.Forms.{function_of}
use Rattle.js_machine_nodes.specs.Trees.{tree, trees}
use Rattle.js_machine_actions.specs.Contexts.{Context, state_of}
use Rattle.js_machine_engine.specs.declared.reduced.Reduced.{Reduced}
use Rattle.js_machine_engine.specs.Tasks.{Wide}
use Rattle.js_machine_rows.specs.declared.codes.CodePlace.{CodePlace}
use Rattle.js_machine_rows.specs.declared.calls.Callee.{Callee}
use Rattle.js_machine_rows.specs.Does.{Does}

-- what a call needs of a function's cell
pub record CalleeView : Type 0 where
  pub code : Code
  pub name : List ℕ
  pub outer : Option Addr
  pub made : Value

-- what a call needs of this cell, where it is a function's
abbrev pub called_of : Option Cell → Option CalleeView
called_of (Some (cells.Function c n l outer made)) = Some (record { code = c; name = n; outer = outer; made = made })
called_of _ = None

-- what a call needs of a callee, by what code keeps of it
abbrev pub view_of : List (List ℕ) → Callee → CalleeView
view_of ts c = record { code = c.code; name = name_text ts c.name; outer = c.outer; made = c.this }

-- what a call needs of a callee, where one was found
abbrev pub callee_view : List (List ℕ) → Option Callee → Option CalleeView
callee_view ts None = None
callee_view ts (Some c) = Some (view_of ts c)

-- a callee is called, as `call_cell` calls a function's cell; its length isn't needed
abbrev pub callee_called : Program → State → Addr → CalleeView → Value → List Value → Action
callee_called p s a c given args = call_cell p s a (Some (cells.Function c.code c.name 0 c.outer c.made)) given args

-- a callee is called where one was found; anything else is not a function
abbrev pub called : Program → State → Addr → Option CalleeView → Value → List Value → Action
called p s a (Some c) given args = callee_called p s a c given args
called p s a None given args = not_a_function

-- ---- entering

-- the code of an entry whose body and functions are there
abbrev pub entry_code : List (List ℕ) → NodeTable → CodePlace → FunctionEntry → FunctionCode
entry_code ts t p f = record { form = function_of ts f; body = tree ts t p.body; functions = trees ts t p.first p.end }

-- the scope of a call, with its functions
abbrev pub call_scope : FunctionCode → List ℕ → Addr → List Value → (Addr → Action) → Action
call_scope c name outer args k =
    new_scope scopes.Function name outer (parameters_from 0 c.form.parameters args ++ c.form.names)
    (λ s. with_functions s c.functions (k s))

-- ---- an action that asks a state for its world and its frames, in a context

-- of a task: performing what a state is asked for is the answer, in this context and behind any texts that were taken
abbrev pub Acts : List (List ℕ)
    → NodeTable
    → Wide
    → (State → Action)
    → World
    → Context
    → Reduced
    → World
    → Context
    → Type 0
Acts ts t e f v c r w d =
    (taken : List (List ℕ)) → Does ts t e (f (state_of v c taken)) (state_of v c taken) r (state_of w d taken)

-- it acts so in every task of every table with these arguments
abbrev pub ActsOn : List (List ℕ) → List Value → (State → Action) → World → Context → Reduced → World → Context → Type 0
ActsOn ts args f v c r w d = (t : NodeTable) (e : Wide) → args ≡ drop 2 e.values → Acts ts t e f v c r w d

-- it acts so in every task of this table with these arguments
abbrev pub ActsIn : List (List ℕ)
    → NodeTable
    → List Value
    → (State → Action)
    → World
    → Context
    → Reduced
    → World
    → Context
    → Type 0
ActsIn ts t args f v c r w d = (e : Wide) → args ≡ drop 2 e.values → Acts ts t e f v c r w d

-- it acts so in every task with these values
abbrev pub ActsOf : List (List ℕ)
    → NodeTable
    → List Value
    → (State → Action)
    → World
    → Context
    → Reduced
    → World
    → Context
    → Type 0
ActsOf ts t vs f v c r w d = (e : Wide) → vs ≡ e.values → Acts ts t e f v c r w d

-- whatever the task and the table
abbrev pub ActsAnywhere : List (List ℕ) → (State → Action) → World → Context → Reduced → World → Context → Type 0
ActsAnywhere ts f v c r w d = (t : NodeTable) (e : Wide) → Acts ts t e f v c r w d

-- whatever the task
abbrev pub ActsAlways : List (List ℕ)
    → NodeTable
    → (State → Action)
    → World
    → Context
    → Reduced
    → World
    → Context
    → Type 0
ActsAlways ts t f v c r w d = (e : Wide) → Acts ts t e f v c r w d

-- the frame of a call to code with this node and body is entered
abbrev pub EntersFrame : ℕ → ℕ → Source → Addr → Value → Addr → Context → Reduced → Context → Type 0
EntersFrame node body source a receiver own c r d =
    (ts : List (List ℕ)) (t : NodeTable) (e : Wide) (w : World) (taken : List (List ℕ)) (code : FunctionCode)
    → node ≡ code.form.node
    → tree ts t body ≡ code.body →
    Does ts t e (frame_entered code source a receiver own) (state_of w c taken) r (state_of w d taken)

-- the frame of a call to code with this node
abbrev pub call_frame : ℕ → Source → Addr → Value → Addr → Frame
call_frame node source a receiver own =
    record { function = Some a; source = source; receiver = receiver; scope = own; here = at_start node }

-- this frame of a call to code with this node and body is entered
abbrev pub EntersBy : ℕ → ℕ → Addr → Frame → Context → Reduced → Context → Type 0
EntersBy node body own f c r d =
    (source : Source) (a : Addr) (receiver : Value) → f ≡ call_frame node source a receiver own
    → EntersFrame node body source a receiver own c r d

-- code that is there is entered, as by `call_code`
abbrev pub entered_within : State → FunctionCode → Source → Addr → List ℕ → Addr → Value → List Value → Action
entered_within s code source a name outer receiver args =
    if nat_lt (length s.frames) frame_limit then entered code source a name outer receiver args else too_deep
