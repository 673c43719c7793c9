-- Rows: what performing an action is, by a row's answer.
use Rattle.std.specs.Prelude.{ℕ, List, Result, Ok, Err}
use Rattle.js_heap.specs.declared.value.Value.{Value}
use Rattle.js_heap.specs.World.{World}
use Rattle.js_heap.specs.declared.computed.Computed.{Computed}
use Rattle.js_semantics.specs.References.{with_result}
use Rattle.js_semantics.specs.State.{State, with_world, Action, go}
use Rattle.js_machine_actions.specs.declared.action_end.ActionEnd.{ActionEnd}
use Rattle.js_machine_actions.specs.declared.action_end.ActionEnd.TheVariants.{Raised, Given, Effect, Full, Memory}
use Rattle.js_machine_actions.specs.Flow.{performed}
use Rattle.js_machine_actions.specs.Contexts.{Context, state_of}
use Rattle.js_machine_nodes.specs.declared.table.NodeTable.{NodeTable}
use Rattle.js_machine_engine.specs.declared.reduced.Reduced.{Reduced}
use Rattle.js_machine_engine.specs.declared.reduced.Reduced.TheVariants as reduced
use Rattle.js_machine_engine.specs.Tasks.{Wide}
use Rattle.js_machine_engine.specs.Answers.{Reduces, called, assigned}

-- ---- what a row says, of a task: performing the action in a state is the answer, in a state after it

-- of a task: performing the action in one state is what the answer says, in the other state
abbrev pub Does : List (List ℕ) → NodeTable → Wide → Action → State → Reduced → State → Type 0
Does ts t e a s r u = Reduces ts t e (performed a s) r u

-- it does so in every state that has this world
abbrev pub DoesIn : List (List ℕ) → NodeTable → Wide → Action → World → Reduced → World → Type 0
DoesIn ts t e a v r w = (s : State) → Does ts t e a (with_world s v) r (with_world s w)

-- it does so whatever the task, in every state that has this world
abbrev pub Replies : List (List ℕ) → Action → World → Reduced → World → Type 0
Replies ts a v r w = (t : NodeTable) (e : Wide) → DoesIn ts t e a v r w

-- it does so in a context, after any texts that were taken
abbrev pub DoesWith : List (List ℕ) → NodeTable → Wide → Action → World → Context → Reduced → World → Context → Type 0
DoesWith ts t e a v c r w d = (taken : List (List ℕ)) → Does ts t e a (state_of v c taken) r (state_of w d taken)

-- it does so whatever the task, in a context
abbrev pub RepliesWith : List (List ℕ) → Action → World → Context → Reduced → World → Context → Type 0
RepliesWith ts a v c r w d = (t : NodeTable) (e : Wide) → DoesWith ts t e a v c r w d

-- ---- what operations come to, as answers

-- the answer where an action ends so
abbrev pub stopped : ActionEnd → Reduced
stopped (Raised v) = reduced.Raises v
stopped (Given v) = reduced.Gives v
stopped Effect = reduced.Effect
stopped (Full what) = reduced.Full what
stopped Memory = reduced.Memory

-- the answer where an action gives a value, or ends
abbrev pub replied : Result Value ActionEnd → Reduced
replied (Ok v) = reduced.Gives v
replied (Err e) = stopped e

-- the answer where an action passes and gives this value, or ends
abbrev pub replied_with : Result (Unit {0}) ActionEnd → Value → Reduced
replied_with (Ok u) v = reduced.Gives v
replied_with (Err e) v = stopped e

-- ---- what is read, and gone on with: a call of it, or an assignment of an operator on it

-- whatever the task, what is read is the callee of the call that goes on, as the answer says
abbrev pub CallsIt : List (List ℕ) → Computed → World → Reduced → World → Type 0
CallsIt ts x v r w = (t : NodeTable) (e : Wide) → DoesIn ts t e (with_result x (λ f. go (called ts t e f))) v r w

-- whatever the task, what is read is the old value of the assignment that goes on, as the answer says
abbrev pub AssignsIt : List (List ℕ) → Computed → World → Reduced → World → Type 0
AssignsIt ts x v r w =
    (t : NodeTable) (e : Wide) → DoesIn ts t e (with_result x (λ old. go (assigned ts t e old))) v r w

-- the answer where a callee was read, or the action ended
abbrev pub calling : Result Value ActionEnd → Reduced
calling (Ok v) = reduced.Calls v
calling (Err e) = stopped e

-- the answer where an old value was read, or the action ended
abbrev pub assigning : Result Value ActionEnd → Reduced
assigning (Ok v) = reduced.Assigns v
assigning (Err e) = stopped e
