-- What rows say over a table, whose trees are the parts that they keep.
use Rattle.std.specs.Prelude.{◌≡◌, ℕ, Bool, true, false, List, [], Option, Some, None, Result, Ok, Err, if◌then◌else◌}
use Rattle.js_heap.specs.declared.value.Addr.{Addr}
use Rattle.js_heap.specs.declared.value.Value.{Value}
use Rattle.js_heap.specs.declared.value.Value.TheVariants as values
use Rattle.js_heap.specs.declared.cell.Binding.{Binding}
use Rattle.js_heap.specs.declared.cell.ScopeKind.{ScopeKind}
use Rattle.js_heap.specs.BuiltIns.{script_scope}
use Rattle.js_heap.specs.World.{World}
use Rattle.js_semantics.specs.Terms.{Terms}
use Rattle.js_semantics.specs.declared.form.Member.{Member}
use Rattle.js_semantics.specs.declared.form.Form.TheVariants.{Object as object}
use Rattle.js_semantics.specs.State.{State, Action, make, give, pop_frame, push_frame}
use Rattle.js_semantics.specs.Rows.{script_frame, turn_row, elements_of}
use Rattle.js_semantics.specs.Functions.{new_scope, with_names, with_functions, function_cell, named_function, receiver_of}
use Rattle.js_semantics.specs.References.{with_key}
use Rattle.js_semantics.specs.declared.form.FunctionForm.{FunctionForm}
use Rattle.js_machine_actions.specs.declared.action_end.ActionEnd.{ActionEnd}
use Rattle.js_machine_actions.specs.Contexts.{Context}
use Rattle.js_machine_nodes.specs.declared.table.NodeTable.{NodeTable}
use Rattle.js_machine_nodes.specs.Trees.{trees}
use Rattle.js_machine_engine.specs.declared.code.RunningCode.{RunningCode}
use Rattle.js_machine_engine.specs.declared.reduced.Reduced.{Reduced}
use Rattle.js_machine_engine.specs.declared.reduced.Reduced.TheVariants as reduced
use Rattle.js_machine_engine.specs.declared.task.Redex.{Redex}
use Rattle.js_machine_engine.specs.Tasks.{Wide, index_of, task_form, later_of}
use Rattle.js_machine_engine.specs.Answers.{head_of, rest_of, now_of}
use Rattle.js_machine_rows.specs.Does.{Does, DoesIn, DoesWith, stopped}

-- the parts that a form keeps, in the code that runs
abbrev pub kept_parts : RunningCode → Redex → Terms
kept_parts code form = trees code.names.now code.table.now form.mid form.end

-- ---- what a row says over a table, whatever the task

-- whatever the task of this table, in every state that has this world
abbrev pub RepliesOver : List (List ℕ) → NodeTable → Action → World → Reduced → World → Type 0
RepliesOver ts t a v r w = (e : Wide) → DoesIn ts t e a v r w

-- so by code that runs, in a world that is seen so with its names; the action asks for it
abbrev pub RepliesOf : {S : Type 0}
    → (List (List ℕ) → S → World)
    → RunningCode
    → (World → Action)
    → S
    → Reduced
    → S
    → Type 0
RepliesOf see code a old r new =
    RepliesOver code.names.now code.table.now (a (see code.names.now old)) (see code.names.now old) r
    (see code.names.now new)

-- whatever the task of this table, in a context, behind any texts that were taken
abbrev pub RepliesOverWith : List (List ℕ) → NodeTable → Action → World → Context → Reduced → World → Context → Type 0
RepliesOverWith ts t a v c r w d = (e : Wide) → DoesWith ts t e a v c r w d

-- whatever the names and the world, which it doesn't touch
abbrev pub RepliesAnywhere : NodeTable → (List (List ℕ) → Action) → Context → Reduced → Context → Type 0
RepliesAnywhere t a c r d = (ts : List (List ℕ)) (w : World) → RepliesOverWith ts t (a ts) w c r w d

-- whatever the names and the state, which it doesn't touch
abbrev pub RepliesInside : NodeTable → (List (List ℕ) → Action) → Reduced → Type 0
RepliesInside t a r = (ts : List (List ℕ)) (e : Wide) (s : State) → Does ts t e (a ts) s r s

-- ---- of an entry that a row is told of; where the table hasn't it there is no answer

-- this holds of the entry that a row is told of; where the table hasn't it, the answer is want of memory
abbrev pub OfEntry : {A : Type 0} → Option A → Reduced → (A → Type 0) → Type 0
OfEntry None r P = r ≡ reduced.Memory
OfEntry (Some x) r P = P x

-- ---- a turn of a `for .. of` with this name: its element is that of its list at its index

-- of a task: the answer is that of its next turn, from one world to another
abbrev pub IsTurn : List (List ℕ) → NodeTable → Wide → Binding → World → Reduced → World → Type 0
IsTurn ts t e b v r w =
    DoesIn ts t e
    (turn_row e.inner b (index_of e.extra) (elements_of v (later_of ts t e) (index_of e.extra)) (later_of ts t e))
    v r w

-- ---- object literals

-- a task is an object literal with these members and values, and these kept parts
pub record IsLiteralOf (ts : List (List ℕ)) (t : NodeTable) (e : Wide) (ms : List Member) (vs : List Value)
    (later : Terms) : Type 0 where
  pub form : task_form ts t e ≡ object ms
  pub values : e.values ≡ vs
  pub kept : later_of ts t e ≡ later

-- with these members and values, before a part with these parts, and these behind it
pub record AddsTo (ts : List (List ℕ)) (t : NodeTable) (e : Wide) (ms : List Member) (vs : List Value)
    (now rest : Terms) : Type 0 where
  pub form : task_form ts t e ≡ object ms
  pub values : e.values ≡ vs
  pub parts : now_of (head_of (later_of ts t e)) ≡ now
  pub behind : rest_of (later_of ts t e) ≡ rest

-- ---- answers by what is made for them

-- the answer with what was made, or the end that its making came to
abbrev pub answered_by : {A : Type 0} → (A → Reduced) → Result A ActionEnd → Reduced
answered_by f (Ok a) = f a
answered_by f (Err e) = stopped e

-- a kept part that is uncovered; undefined where it isn't there
abbrev pub uncovered : Option ℕ → Reduced
uncovered (Some n) = reduced.Uncovers n
uncovered None = reduced.Gives values.Undefined

-- a kept part; a value where it isn't there
abbrev pub gone_to : Option ℕ → Value → Reduced
gone_to (Some n) v = reduced.Goes n
gone_to None v = reduced.Gives v

-- a turn, or the end of a loop
abbrev pub tested : Bool → Reduced
tested true = reduced.Turns
tested false = reduced.Gives values.Undefined

-- ---- what is done before a row's answer

-- the bottom frame is that of a script
abbrev pub entered_script : ℕ → Action → Action
entered_script number k = pop_frame (push_frame (script_frame number) k)

-- the names of a script and its functions
abbrev pub script_declared : List Binding → Terms → Action → Action
script_declared names functions k = with_names script_scope names (with_functions script_scope functions k)

-- a new scope with its functions
abbrev pub scope_declared : ScopeKind → Addr → List Binding → Terms → (Addr → Action) → Action
scope_declared kind outer names functions k = new_scope kind [] outer names (λ s. with_functions s functions (k s))

-- a function expression or an arrow, in a frame with this `this`; as `function_row`
abbrev pub function_made : FunctionForm → Addr → Value → Action
function_made f scope this =
    if f.is_named then named_function f scope
    else make (function_cell f f.name scope (receiver_of f this)) (λ a. give (values.Object a))

-- a method with this key
abbrev pub method_made : Option (List ℕ) → FunctionForm → Addr → (Addr → Action) → Action
method_made o f scope k = with_key o (λ key. make (function_cell f key scope values.Undefined) k)
