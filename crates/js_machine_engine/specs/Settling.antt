-- What a form comes to when all its parts have their values.
use Rattle.std.specs.Prelude.{◌≡◌, ℕ, ◌<◌, Bool, true, false, List, [], ◌∷◌, Option, Some, None, slice_get}
use Rattle.js_heap.specs.declared.value.Addr.{Addr}
use Rattle.js_heap.specs.declared.value.Value.{Value}
use Rattle.js_heap.specs.declared.value.Value.TheVariants as values
use Rattle.js_semantics.specs.declared.form.Completion.{Completion}
use Rattle.js_semantics.specs.declared.form.Form.TheVariants.{This as this, Ending as ending, TurnOf as turn_of}
use Rattle.js_semantics.specs.Terms.{Term, done, part, Terms, end, one, dones, last_value, test_of, behind_first, behind_body, at_body, at_test, finished}
use Rattle.js_heap_memory.specs.Cells.{binding_at}
use Rattle.js_machine_nodes.specs.declared.op.Op.{Op}
use Rattle.js_machine_nodes.specs.declared.op.Op.TheVariants as ops
use Rattle.js_machine_nodes.specs.declared.node.ForOfEntry.{ForOfEntry}
use Rattle.js_machine_nodes.specs.declared.table.NodeTable.{NodeTable}
use Rattle.js_machine_nodes.specs.Trees.{tree, trees}
use Rattle.js_machine_engine.specs.declared.task.Extra.{Extra}
use Rattle.js_machine_engine.specs.declared.task.Task.{Task}
use Rattle.js_machine_engine.specs.declared.closing.Closing.{Closing}
use Rattle.js_machine_engine.specs.declared.closing.Closing.TheVariants as closings
use Rattle.js_machine_engine.specs.declared.closing.KeptPart.{KeptPart}
use Rattle.js_machine_engine.specs.declared.closing.KeptPart.TheVariants as kepts
use Rattle.js_machine_engine.specs.declared.closing.Next.{Next}
use Rattle.js_machine_engine.specs.declared.closing.Next.TheVariants as nexts
use Rattle.js_machine_engine.specs.declared.task.Point.{Point}
use Rattle.js_machine_engine.specs.Gaps.{plugged, resettled}
use Rattle.js_machine_engine.specs.Tasks.{Wide, turn_scope, index_of, kept_of, form_in, task_form, later_of, gaps_of, scope_of, InScopes}
use Rattle.js_machine_engine.specs.Stacks.{has_extra, wide, values_of, outer_of}
use Rattle.js_machine_engine.specs.Parts.{IsOpen, parts_of}
use Rattle.js_machine_engine.specs.Points.{row_term, term_at, IsAt, IsAtRow}

-- ---- which forms don't wait for their row

-- what a task does when all its parts have values
abbrev pub closing_of : Op → Closing
closing_of ops.Scripts = closings.Undefined
closing_of ops.Sequence = closings.Undefined
closing_of ops.Catching = closings.Undefined
closing_of ops.CatchingName = closings.Undefined
closing_of ops.Scoped = closings.Last
closing_of ops.LoopFirst = closings.First
closing_of ops.LoopDoing = closings.Doing
closing_of ops.LoopBody = closings.Body
closing_of ops.LoopUpdating = closings.Updating
closing_of ops.BodyOf = closings.Turn
closing_of ops.Finishing = closings.Finally
closing_of ops.Ending = closings.Ending
closing_of op = closings.Waits

-- a `for .. of` behind a turn, by its entry; a number that names no entry gives the form `this` over the parts
abbrev pub next_turn_term : List (List ℕ) → Option ForOfEntry → ℕ → Terms → Terms → Term
next_turn_term ts None i now later = part this now later
next_turn_term ts (Some e) i now later = part (turn_of (binding_at ts e.slot) i) end later

-- a `finally` that ends, by what it keeps
abbrev pub ended_term : Option Completion → Terms → Terms → Term
ended_term None now later = done values.Undefined
ended_term (Some c) now later = part (ending (Some c)) now later

-- a form that closes waits for its row
abbrev pub is_waiting : Closing → Bool
is_waiting closings.Waits = true
is_waiting c = false

-- what the form of a task becomes that closes in this way
abbrev pub closed : List (List ℕ) → NodeTable → Op → ℕ → Addr → Option Extra → Terms → Terms → Closing → Term
closed ts t op info inner e now later closings.Waits = part (form_in ts t op info inner e) now later
closed ts t op info inner e now later closings.Undefined = done values.Undefined
closed ts t op info inner e now later closings.Last = done (last_value values.Undefined now)
closed ts t op info inner e now later closings.First = behind_first (turn_scope info inner) later
closed ts t op info inner e now later closings.Doing = at_body (turn_scope info inner) later
closed ts t op info inner e now later closings.Body = behind_body (turn_scope info inner) later
closed ts t op info inner e now later closings.Updating = at_test (turn_scope info inner) later
closed ts t op info inner e now later closings.Turn =
    next_turn_term ts (slice_get t.for_ofs.items info) (index_of e) now later
closed ts t op info inner e now later closings.Finally = part (ending None) later end
closed ts t op info inner e now later closings.Ending = ended_term (kept_of e) now later

-- ---- what comes next

-- the innermost task has values for all its parts, and those that are finished give way
abbrev pub settled_row : List (List ℕ) → NodeTable → List Wide → Term
settled_row ts t [] = done values.Undefined
settled_row ts t (w ∷ ws) = resettled (gaps_of ts t ws) (finished (task_form ts t w) (dones w.values) (later_of ts t w))

-- the innermost task before its next part, with none in its gap
abbrev pub proceeding : List (List ℕ) → NodeTable → List Wide → Term
proceeding ts t [] = done values.Undefined
proceeding ts t (w ∷ ws) =
    plugged (gaps_of ts t ws) (part (task_form ts t w) (parts_of ts t (w ∷ ws)) (later_of ts t w))

-- the term before what comes next
abbrev pub next_term : List (List ℕ) → NodeTable → List Wide → Next → Term
next_term ts t ws nexts.Row = row_term ts t ws
next_term ts t ws (nexts.Value v) = resettled (gaps_of ts t ws) (done v)
next_term ts t ws (nexts.Part n) = plugged (gaps_of ts t ws) (tree ts t n)

-- a part of the innermost task, and what is around that
pub record IsEntered (t : NodeTable) (old new : List Wide) (n : ℕ) : Type 0 where
  pub form : IsOpen (slice_get t.nodes.items n)
  pub inner : (root : Addr) → scope_of root new ≡ scope_of root old

-- what holds where something comes next
abbrev pub StandsNext : NodeTable → List Wide → List Wide → Next → Type 0
StandsNext t old new nexts.Row = IsAtRow new
StandsNext t old new (nexts.Value v) = new ≡ outer_of old
StandsNext t old new (nexts.Part n) = IsEntered t old new n

-- the innermost task has changed in its own scope, and the tasks around it are the same
pub record Through (t : NodeTable) (old new : List Wide) : Type 0 where
  pub outer : outer_of new ≡ outer_of old
  pub inner : (root : Addr) → scope_of root new ≡ scope_of root old
  pub scoped : (root : Addr) → InScopes t root old → InScopes t root new

-- from tasks of which this term is told to others
pub record Comes (t : NodeTable) (old new : List Wide) (from : List (List ℕ) → Term) (next : Next) : Type 0 where
  pub term : (ts : List (List ℕ)) → from ts ≡ next_term ts t new next
  pub stands : StandsNext t old new next
  pub scoped : (root : Addr) → InScopes t root old → InScopes t root new

-- what comes next can come: a row's parts have values, and a part is no value
abbrev pub CanCome : NodeTable → List Wide → Next → Type 0
CanCome t ws nexts.Row = IsAtRow ws
CanCome t ws (nexts.Value v) = Unit {0}
CanCome t ws (nexts.Part n) = IsOpen (slice_get t.nodes.items n)

-- where a part comes, this is the scope in the innermost gap
abbrev pub ComesIn : Addr → List Wide → Addr → Next → Type 0
ComesIn root ws inner (nexts.Part n) = scope_of root ws ≡ inner
ComesIn root ws inner next = Unit {0}

-- ---- kept parts

-- the first of some parts
abbrev pub first_kid : List ℕ → Option ℕ
first_kid [] = None
first_kid (k ∷ ks) = Some k

-- a kept part that is no value
pub record IsOpenPart (t : NodeTable) (place stop : ℕ) (n : ℕ) : Type 0 where
  pub form : IsOpen (slice_get t.nodes.items n)
  pub part : (ts : List (List ℕ)) → test_of (trees ts t place stop) ≡ tree ts t n

-- a kept part is what its tree is
abbrev pub IsKept : NodeTable → ℕ → ℕ → KeptPart → Type 0
IsKept t place stop (kepts.Value v) = (ts : List (List ℕ)) → test_of (trees ts t place stop) ≡ done v
IsKept t place stop (kepts.Open n) = IsOpenPart t place stop n

-- ---- another stage

-- the innermost task, in these fields
abbrev pub IsInnermost : Task → Option Extra → List Wide → Type 0
IsInnermost task e ws = ws ≡ wide task (values_of ws) e ∷ outer_of ws

-- the kept parts of a task
abbrev pub kept_trees : List (List ℕ) → NodeTable → Task → Terms
kept_trees ts t task = trees ts t task.mid task.end

-- a loop around its tasks goes on with this
abbrev pub looped : List (List ℕ) → NodeTable → List Wide → (Option Addr → Terms → Term) → Task → Term
looped ts t old stage task =
    resettled (gaps_of ts t (outer_of old)) (stage (turn_scope task.info task.inner) (kept_trees ts t task))

-- the innermost task does something else, with its kept parts alone
abbrev pub restaged : Op → List Wide → List Wide
restaged op [] = []
restaged op (w ∷ ws) = record w { op = op; at = w.mid; values = [] } ∷ ws

-- a task that does this owns something exactly where the innermost task does
abbrev pub StagesAs : Op → List Wide → Type 0
StagesAs op [] = Unit {0}
StagesAs op (w ∷ ws) = has_extra op w.info ≡ has_extra w.op w.info

-- the innermost task with this part alone, the others kept
abbrev pub staged : List (List ℕ) → NodeTable → List Wide → Term → Term
staged ts t [] x = x
staged ts t (w ∷ ws) x = plugged (gaps_of ts t ws) (part (task_form ts t w) (one x) (later_of ts t w))

-- ---- the way inward

-- there is a task
abbrev pub IsTask : List Wide → Type 0
IsTask [] = ⊥
IsTask (w ∷ ws) = Unit {0}

-- the new tasks are in this scope, and each in its own, where the old ones were
pub record Inward (t : NodeTable) (old new : List Wide) (inner : Addr) : Type 0 where
  pub scope : (root : Addr) → scope_of root old ≡ inner → scope_of root new ≡ inner
  pub scoped : (root : Addr) → scope_of root old ≡ inner → InScopes t root old → InScopes t root new

-- the way goes on from this part of a node, with the term of that node in the innermost gap before
pub record IsDeeper (t : NodeTable) (old new : List Wide) (n k : ℕ) : Type 0 where
  pub term : (ts : List (List ℕ)) → plugged (gaps_of ts t old) (tree ts t n) ≡ plugged (gaps_of ts t new) (tree ts t k)
  pub form : IsOpen (slice_get t.nodes.items k)
  pub before : k < n

-- the way ends at this point, with the term of that node in the innermost gap before
pub record IsInmost (t : NodeTable) (old new : List Wide) (n : ℕ) (p : Point) : Type 0 where
  pub term : (ts : List (List ℕ)) → plugged (gaps_of ts t old) (tree ts t n) ≡ term_at ts t new p
  pub at : IsAt t new p

-- the way inward from a node goes on from a part of it, or ends at a point
abbrev pub WayFrom : NodeTable → List Wide → List Wide → ℕ → ℕ → Point → Bool → Type 0
WayFrom t old new n k p true = IsDeeper t old new n k
WayFrom t old new n k p false = IsInmost t old new n p

-- one level inward from a node: whether the way goes on from a part, or else where it ends
pub record Enters (t : NodeTable) (old new : List Wide) (inner : Addr) (n k : ℕ) (p : Point) (goes : Bool)
    : Type 0 where
  pub way : WayFrom t old new n k p goes
  pub inward : Inward t old new inner

-- on the way inward from a node of the old tasks to this one
pub record IsOnWay (t : NodeTable) (old : List Wide) (node : ℕ) (around : Addr) (now : List Wide) (n : ℕ) : Type 0 where
  pub term : (ts : List (List ℕ))
      → plugged (gaps_of ts t now) (tree ts t n) ≡ plugged (gaps_of ts t old) (tree ts t node)
  pub form : IsOpen (slice_get t.nodes.items n)
  pub inward : Inward t old now around

-- from tasks of which this term is told to others and a point
pub record Settles (t : NodeTable) (old new : List Wide) (from : List (List ℕ) → Term) (p : Point) : Type 0 where
  pub term : (ts : List (List ℕ)) → from ts ≡ term_at ts t new p
  pub at : IsAt t new p
  pub scoped : (root : Addr) → InScopes t root old → InScopes t root new

-- the innermost task gives way to this value, or the machine stands at this point
abbrev pub GivesWay : NodeTable → List Wide → List Wide → (List (List ℕ) → Term) → Value → Point → Bool → Type 0
GivesWay t old new from v p true = Comes t old new from (nexts.Value v)
GivesWay t old new from v p false = Settles t old new from p

-- the innermost task has taken a value: all its parts have values, and it doesn't wait for its row
pub record IsFull (t : NodeTable) (old new : List Wide) (value : Value) : Type 0 where
  pub term : (ts : List (List ℕ)) → resettled (gaps_of ts t old) (done value) ≡ settled_row ts t new
  pub row : IsAtRow new
  pub outer : outer_of new ≡ outer_of old
  pub scoped : (root : Addr) → InScopes t root old → InScopes t root new

-- the innermost task takes a value: all its parts have values then, or the machine stands at this point
abbrev pub Takes : NodeTable → List Wide → List Wide → Value → Point → Bool → Type 0
Takes t old new v p true = IsFull t old new v
Takes t old new v p false = Settles t old new (λ ts. resettled (gaps_of ts t old) (done v)) p

-- on the way outward from old tasks whose innermost one has values for all its parts, to these
pub record IsOnWayOut (t : NodeTable) (old now : List Wide) : Type 0 where
  pub term : (ts : List (List ℕ)) → settled_row ts t now ≡ settled_row ts t old
  pub row : IsAtRow now
  pub scoped : (root : Addr) → InScopes t root old → InScopes t root now
