-- The tasks of a machine, from the innermost one: what each call of a stack does to them, and how they are kept.
use Rattle.std.specs.Prelude.{◌≡◌, ℕ, ◌+◌, ◌≤◌, Bool, true, false, not, nat_eq, List, [], ◌∷◌, ◌++◌, length, take, drop, reverse, Option, Some, None, if◌then◌else◌}
use Rattle.js_heap.specs.declared.value.Addr.{Addr}
use Rattle.js_heap.specs.declared.value.Value.{Value}
use Rattle.js_machine_nodes.specs.declared.op.Op.{Op}
use Rattle.js_machine_nodes.specs.declared.op.Op.TheVariants as ops
use Rattle.js_machine_engine.specs.declared.task.Task.{Task}
use Rattle.js_machine_engine.specs.declared.task.Extra.{Extra}
use Rattle.js_machine_engine.specs.declared.task.Extra.TheVariants as extras
use Rattle.js_machine_engine.specs.Tasks.{Wide}

-- whether a task owns what a `finally` keeps, or a list with its index
abbrev pub has_extra : Op → ℕ → Bool
has_extra ops.TurnOf info = true
has_extra ops.BodyOf info = true
has_extra ops.ObjectRest info = true
has_extra ops.Ending info = not (nat_eq info 0)
has_extra op info = false

-- ---- the innermost task

-- there is no task
abbrev pub is_empty : List Wide → Bool
is_empty [] = true
is_empty (w ∷ ws) = false

-- what the innermost task does
abbrev pub op_of : List Wide → Op
op_of [] = ops.Literal
op_of (w ∷ ws) = w.op

-- the values of the innermost task
abbrev pub values_of : List Wide → List Value
values_of [] = []
values_of (w ∷ ws) = w.values

-- what the innermost task owns
abbrev pub extra_of : List Wide → Option Extra
extra_of [] = None
extra_of (w ∷ ws) = w.extra

-- the tasks around the innermost one
abbrev pub outer_of : List Wide → List Wide
outer_of [] = []
outer_of (w ∷ ws) = ws

-- a task of a stack, with what it owns
abbrev pub wide : Task → List Value → Option Extra → Wide
wide t vs e =
    record { op = t.op; info = t.info; at = t.at; mid = t.mid; end = t.end; inner = t.inner; values = vs; extra = e }

-- a task before its first value
abbrev pub begun : Op → ℕ → ℕ → ℕ → ℕ → Addr → Option Extra → Wide
begun op info at mid end inner e =
    record { op = op; info = info; at = at; mid = mid; end = end; inner = inner; values = []; extra = e }

-- the innermost task has nothing that it doesn't own
abbrev pub OwnsOnly : List Wide → Type 0
OwnsOnly [] = Unit {0}
OwnsOnly (w ∷ ws) = has_extra w.op w.info ≡ false → w.extra ≡ None

-- ---- what a call makes of it

-- the innermost task has one more value
abbrev pub with_value : Value → List Wide → List Wide
with_value v [] = []
with_value v (w ∷ ws) = record w { values = w.values ++ v ∷ [] } ∷ ws

-- the innermost task has no values
abbrev pub without_values : List Wide → List Wide
without_values [] = []
without_values (w ∷ ws) = record w { values = [] } ∷ ws

-- the next part of the innermost task stands at this place
abbrev pub at_part : ℕ → List Wide → List Wide
at_part at [] = []
at_part at (w ∷ ws) = record w { at = at } ∷ ws

-- the innermost task does something else, with other parts
abbrev pub changed : Op → ℕ → ℕ → ℕ → List Wide → List Wide
changed op info at mid [] = []
changed op info at mid (w ∷ ws) = record w { op = op; info = info; at = at; mid = mid } ∷ ws

-- the parts of the innermost task are in this scope
abbrev pub within : Addr → List Wide → List Wide
within a [] = []
within a (w ∷ ws) = record w { inner = a } ∷ ws

-- what a task owns, at the next turn of the list that it goes over
abbrev pub next_turn : Extra → Extra
next_turn (extras.Kept c) = extras.Kept c
next_turn (extras.Turn list i) = extras.Turn list (i + 1)
next_turn (extras.Rest from) = extras.Rest from

-- what a task owns at its next turn, if it owns something
abbrev pub turned_extra : Option Extra → Option Extra
turned_extra None = None
turned_extra (Some e) = Some (next_turn e)

-- the innermost task is at its next turn
abbrev pub turned : List Wide → List Wide
turned [] = []
turned (w ∷ ws) = record w { extra = turned_extra w.extra } ∷ ws

-- the innermost task does something else that owns this, with other parts
abbrev pub owning : Op → ℕ → ℕ → ℕ → Extra → List Wide → List Wide
owning op info at mid e [] = []
owning op info at mid e (w ∷ ws) = record w { op = op; info = info; at = at; mid = mid; extra = Some e } ∷ ws

-- the innermost task owns something exactly where one that does this would
abbrev pub OwnsAs : Op → ℕ → List Wide → Type 0
OwnsAs op info [] = Unit {0}
OwnsAs op info (w ∷ ws) = has_extra op info ≡ has_extra w.op w.info

-- ---- how they are kept: all lists from the innermost task, but for the values

-- what a task owns, by whether it owns something
abbrev pub first_extra : Bool → List Extra → Option Extra
first_extra false es = None
first_extra true [] = None
first_extra true (e ∷ es) = Some e

-- what the tasks around it own
abbrev pub other_extras : Bool → List Extra → List Extra
other_extras false es = es
other_extras true [] = []
other_extras true (e ∷ es) = es

-- what the tasks own, the first of it at its next turn, if it is the innermost task's
abbrev pub turned_extras : Bool → List Extra → List Extra
turned_extras false es = es
turned_extras true [] = []
turned_extras true (e ∷ es) = next_turn e ∷ es

-- the values of a task are those from its `base` on, up to those of the next one
abbrev pub widened : List Task → List Value → List Extra → List Wide
widened [] vs es = []
widened (t ∷ ts) vs es =
    wide t (drop t.base vs) (first_extra (has_extra t.op t.info) es) ∷ widened ts (take t.base vs)
    (other_extras (has_extra t.op t.info) es)

-- the tasks with their values, of lists in which the innermost task comes last
abbrev pub widened_back : List Task → List Value → List Extra → List Wide
widened_back ts vs es = widened (reverse ts) vs (reverse es)

-- each task begins where the tasks around it end, or above that
abbrev pub AreBased : List Task → ℕ → Type 0
AreBased [] n = Unit {0}
AreBased (t ∷ ts) n = (t.base ≤ n) × AreBased ts t.base

-- how many tasks own something
abbrev pub extras_count : List Task → ℕ
extras_count [] = 0
extras_count (t ∷ ts) = (if has_extra t.op t.info then 1 else 0) + extras_count ts

-- no task begins above the next one, and each that owns something has it
pub record AreKept (ts : List Task) (vs : List Value) (es : List Extra) : Type 0 where
  pub based : AreBased (reverse ts) (length vs)
  pub owned : extras_count (reverse ts) ≤ length es
