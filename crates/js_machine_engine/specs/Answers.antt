-- What a row's answer says of what was about to be reduced.
use Rattle.std.specs.Prelude.{◌≡◌, ℕ, ◌+◌, List, drop, Option, Some, None, slice_get}
use Rattle.js_heap.specs.declared.value.Addr.{Addr}
use Rattle.js_heap.specs.declared.value.Value.{Value}
use Rattle.js_heap.specs.declared.value.Value.TheVariants as values
use Rattle.js_semantics.specs.declared.form.Completion.{Completion}
use Rattle.js_semantics.specs.declared.form.Completion.TheVariants.{Returns as returns, Breaks as breaks, Continues as continues}
use Rattle.js_semantics.specs.declared.form.Form.TheVariants.{Scoped as scoped, Frame as frame, Comma as comma}
use Rattle.js_semantics.specs.Terms.{Term, done, part, Terms, end, more, one, joined, dones, at_test, at_update, at_body, settled, settle}
use Rattle.js_semantics.specs.State.{State, Move, goes, travels, has_effect, is_full, went, printed_values, raised_at}
use Rattle.js_semantics.specs.Rows.{only, for_in, body_part}
use Rattle.js_machine_nodes.specs.declared.op.Op.{Op}
use Rattle.js_machine_nodes.specs.declared.op.Op.TheVariants as ops
use Rattle.js_machine_nodes.specs.declared.table.NodeTable.{NodeTable}
use Rattle.js_machine_nodes.specs.Forms.{form_of, call_form, list_form, turn_form, body_form}
use Rattle.js_machine_nodes.specs.Trees.{tree}
use Rattle.js_machine_engine.specs.declared.reduced.Reduced.{Reduced}
use Rattle.js_machine_engine.specs.declared.reduced.Reduced.TheVariants as reduced
use Rattle.js_machine_engine.specs.Tasks.{Wide, turn_scope, kept_of, index_of, task_form, later_of}

-- ---- parts of terms

-- the first part; undefined where there is none
abbrev pub head_of : Terms → Term
head_of end = done values.Undefined
head_of (more t ts) = t

-- the parts behind the first one
abbrev pub rest_of : Terms → Terms
rest_of end = end
rest_of (more t ts) = ts

-- a part in a scope of its own
abbrev pub in_scope : Addr → Term → Term
in_scope a t = settled (scoped a) (one t) end

-- ---- calls and assignments

-- the `this` of a call whose callee was a name, or a property of its first value
abbrev pub this_of_call : Op → List Value → Value
this_of_call ops.CallOfName vs = values.Undefined
this_of_call op vs = only vs

-- the assignment that follows the operator of a compound one
abbrev pub assigning : Op → Op
assigning (ops.CompoundName o) = ops.AssignName
assigning (ops.CompoundMember o) = ops.AssignMember
assigning op = ops.AssignIndex

-- the operator of a compound assignment, as an operator on two values
abbrev pub operating : Op → Op
operating (ops.CompoundName o) = ops.Binary o
operating (ops.CompoundMember o) = ops.Binary o
operating (ops.CompoundIndex o) = ops.Binary o
operating op = op

-- the operator of a compound assignment on the old value and the right side
abbrev pub operated : List (List ℕ) → NodeTable → Wide → Value → Term
operated ts t w old =
    part (form_of ts t (operating w.op) w.info) (more (done old) (one (head_of (later_of ts t w)))) end

-- what a compound assignment is once the old value is read: an assignment of its operator's value
abbrev pub assigned : List (List ℕ) → NodeTable → Wide → Value → Term
assigned ts t w old =
    part (form_of ts t (assigning w.op) w.info) (joined (dones w.values) (one (operated ts t w old))) end

-- what a call is once its callee is read: the arguments come next
abbrev pub called : List (List ℕ) → NodeTable → Wide → Value → Term
called ts t w callee =
    part (call_form (slice_get t.calls.items w.info))
    (more (done (this_of_call w.op w.values)) (more (done callee) (later_of ts t w))) end

-- ---- loops

-- the scope of a loop's present turn, where it has one
abbrev pub own_scope : Wide → Option Addr
own_scope w = turn_scope w.info w.inner

-- a `for .. of` that evaluates its list in this scope
abbrev pub listed : List (List ℕ) → NodeTable → Wide → Addr → Term
listed ts t w a =
    part (list_form ts (slice_get t.for_ofs.items w.info)) (one (in_scope a (head_of (later_of ts t w))))
    (rest_of (later_of ts t w))

-- a `for .. of` in a turn whose name stands in this scope
abbrev pub iterated : List (List ℕ) → NodeTable → Wide → Addr → Term
iterated ts t w a =
    settled (body_form ts (slice_get t.for_ofs.items w.info) (index_of w.extra + 1))
    (one (in_scope a (body_part (later_of ts t w)))) (later_of ts t w)

-- ---- object literals

-- the parts of a method with a computed key that come behind it
abbrev pub now_of : Term → Terms
now_of (part f now later) = now
now_of t = end

-- an object literal once a method with a computed key is made, with the parts that come behind it
abbrev pub added : List (List ℕ) → NodeTable → Wide → Value → Term
added ts t w v =
    part (task_form ts t w) (joined (dones w.values) (more (done v) (now_of (head_of (later_of ts t w)))))
    (rest_of (later_of ts t w))

-- ---- what goes on

-- what stands in place of the task after its row; of an answer that isn't told of here nothing is said
unfoldable pub reduced_term : List (List ℕ) → NodeTable → Wide → Reduced → Term
reduced_term ts t w (reduced.Gives v) = done v
reduced_term ts t w (reduced.Goes n) = tree ts t n
reduced_term ts t w (reduced.Uncovers n) = settle (tree ts t n)
reduced_term ts t w (reduced.Scopes a n) = in_scope a (settle (tree ts t n))
reduced_term ts t w (reduced.Enters function a n) = part (frame function a) (one (settle (tree ts t n))) end
reduced_term ts t w (reduced.Calls callee) = called ts t w callee
reduced_term ts t w (reduced.Assigns old) = assigned ts t w old
reduced_term ts t w (reduced.Tests a) = at_test (Some a) (later_of ts t w)
reduced_term ts t w (reduced.Updates a) = at_update (Some a) (later_of ts t w)
reduced_term ts t w reduced.Turns = at_body (own_scope w) (later_of ts t w)
reduced_term ts t w (reduced.Initializes constant a) = for_in constant a (later_of ts t w)
reduced_term ts t w (reduced.Lists a) = listed ts t w a
reduced_term ts t w (reduced.Iterates v) =
    part (turn_form ts (slice_get t.for_ofs.items w.info) 0) end (more (done v) (later_of ts t w))
reduced_term ts t w (reduced.Iterated a) = iterated ts t w a
reduced_term ts t w reduced.Commas = part comma (one (head_of (later_of ts t w))) (rest_of (later_of ts t w))
reduced_term ts t w (reduced.Adds v) = added ts t w v
reduced_term ts t w r = done values.Undefined

-- ---- the move

-- the end of a `finally`: what it keeps travels on, if it keeps a completion
abbrev pub resumed : Option Completion → State → Move Term
resumed (Some c) s = travels c s
resumed None s = goes (done values.Undefined) s went

-- what the task is after its row, and what the row tells
unfoldable pub reduced_move : List (List ℕ) → NodeTable → Wide → Reduced → State → Move Term
reduced_move ts t w (reduced.Raises v) s = raised_at v s
reduced_move ts t w (reduced.Returns v) s = travels (returns v) s
reduced_move ts t w reduced.Breaks s = travels breaks s
reduced_move ts t w reduced.Continues s = travels continues s
reduced_move ts t w reduced.Resumes s = resumed (kept_of w.extra) s
reduced_move ts t w reduced.Prints s = goes (done values.Undefined) s (printed_values (drop 2 w.values))
reduced_move ts t w reduced.Effect s = has_effect s
reduced_move ts t w (reduced.Full what) s = is_full what s
reduced_move ts t w r s = goes (reduced_term ts t w r) s went

-- the move is what the answer says; want of memory says nothing
abbrev pub Reduces : List (List ℕ) → NodeTable → Wide → Move Term → Reduced → State → Type 0
Reduces ts t w m reduced.Memory s = Unit {0}
Reduces ts t w m r s = m ≡ reduced_move ts t w r s
