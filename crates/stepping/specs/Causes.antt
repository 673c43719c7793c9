-- The rules by which a session stops the program, and which of them comes first.
use Rattle.std.specs.Prelude.{◌≡◌, ℕ, ◌<◌, ◌≤◌, ◌&&◌, ◌||◌, Bool, true, false, not, nat_eq, nat_le, nat_lt, is_some, if◌then◌else◌, Option, Some, None, IsTrue, IsSome, IsSomeAnd}
use Rattle.cdp_text.specs.declared.position.Place.{Place}
use Rattle.stepping.specs.declared.rules.Rules.{Rules}
use Rattle.stepping.specs.declared.rules.Exceptions.{Exceptions}
use Rattle.stepping.specs.declared.rules.Exceptions.TheVariants as throws
use Rattle.stepping.specs.declared.rules.StepKind.{StepKind}
use Rattle.stepping.specs.declared.rules.StepRequest.{StepRequest}
use Rattle.stepping.specs.declared.rules.StepKind.TheVariants as kinds
use Rattle.stepping.specs.declared.arrival.Arrival.{Arrival}
use Rattle.stepping.specs.declared.cause.Cause.{Cause}
use Rattle.stepping.specs.declared.cause.Cause.TheVariants as causes

-- ---- each rule

-- a throw was raised, and it is of a kind that stops the program
abbrev pub StopsAtRaise : Exceptions → Option Bool → Type 0
StopsAtRaise throws.Never raised = ⊥
StopsAtRaise throws.Uncaught raised = raised ≡ Some true
StopsAtRaise throws.All raised = IsSome raised

-- a step of this kind, asked for at one depth, ends at an arrival at another
abbrev pub EndsAt : StepKind → ℕ → ℕ → Type 0
EndsAt kinds.Into asked depth = Unit {0}
EndsAt kinds.Over asked depth = depth ≤ asked
EndsAt kinds.Out asked depth = depth < asked

-- the program arrived, which is at a break location
abbrev pub HasArrived : Arrival → Type 0
HasArrived a = IsSome a.place

-- the rule of a cause, for a session that stops the program at all; `hit` says that an active breakpoint of it is at
-- the place, and that the condition of it holds
abbrev pub Applies : Rules → Arrival → Bool → Cause → Type 0
Applies r a hit causes.Exception = StopsAtRaise r.exceptions a.raised
Applies r a hit causes.Breakpoint = HasArrived a × IsTrue hit
Applies r a hit causes.DebuggerStatement = HasArrived a × IsTrue a.debugger
Applies r a hit causes.Pause = HasArrived a × IsTrue r.pause
Applies r a hit causes.Step = HasArrived a × IsSomeAnd r.step (λ s. EndsAt s.kind s.depth a.depth)
Applies r a hit causes.ContinueTo = HasArrived a × (a.place ≡ r.to)

-- a cause's rule holds: the session is enabled, doesn't skip, and the rule applies
pub record Holds (r : Rules) (a : Arrival) (hit : Bool) (c : Cause) : Type 0 where
  pub enabled : r.enabled ≡ true
  pub heeded : r.skip ≡ false
  pub applies : Applies r a hit c

-- ---- the first

-- the order in which the rules are tried
abbrev pub rank : Cause → ℕ
rank causes.Exception = 1
rank causes.Breakpoint = 2
rank causes.DebuggerStatement = 3
rank causes.Pause = 4
rank causes.Step = 5
rank causes.ContinueTo = 6

-- a cause's rule holds, and none that is tried before it does
pub record IsFirst (r : Rules) (a : Arrival) (hit : Bool) (c : Cause) : Type 0 where
  pub holds : Holds r a hit c
  pub none_before : (earlier : Cause) → rank earlier < rank c → ¬ Holds r a hit earlier

-- no cause's rule holds
abbrev pub NoneHolds : Rules → Arrival → Bool → Type 0
NoneHolds r a hit = (c : Cause) → ¬ Holds r a hit c

-- ---- the first, as a function

-- a throw was raised that no `catch` will take
abbrev pub is_uncaught : Option Bool → Bool
is_uncaught None = false
is_uncaught (Some uncaught) = uncaught

-- a throw was raised of a kind that stops the program
abbrev pub stops_at_raise : Exceptions → Option Bool → Bool
stops_at_raise throws.Never raised = false
stops_at_raise throws.Uncaught raised = is_uncaught raised
stops_at_raise throws.All raised = is_some raised

-- a step of this kind, asked for at one depth, ends at an arrival at another
abbrev pub ends_at : StepKind → ℕ → ℕ → Bool
ends_at kinds.Into asked depth = true
ends_at kinds.Over asked depth = nat_le depth asked
ends_at kinds.Out asked depth = nat_lt depth asked

-- the step that was asked for, if one was, ends at an arrival at this depth
abbrev pub step_ends : Option StepRequest → ℕ → Bool
step_ends None depth = false
step_ends (Some step) depth = ends_at step.kind step.depth depth

-- the place that was asked for, if one was, is this one
abbrev pub is_place : Option Place → Place → Bool
is_place None place = false
is_place (Some asked) place =
    nat_eq asked.script place.script && nat_eq asked.pos.line place.pos.line && nat_eq asked.pos.col place.pos.col

-- the first rule of an arrival at a place, if one holds
abbrev pub cause_there : Rules → Arrival → Bool → Place → Option Cause
cause_there r a hit place =
    if hit then Some causes.Breakpoint
    else if a.debugger then Some causes.DebuggerStatement
    else if r.pause then Some causes.Pause
    else if step_ends r.step a.depth then Some causes.Step
    else if is_place r.to place then Some causes.ContinueTo else None

-- a step that arrives nowhere is named by no rule of arrivals
abbrev pub cause_at : Rules → Arrival → Bool → Option Place → Option Cause
cause_at r a hit None = None
cause_at r a hit (Some place) = cause_there r a hit place

-- the first rule by which a session stops the program, if one does
abbrev pub first_cause : Rules → Arrival → Bool → Option Cause
first_cause r a hit =
    if not r.enabled || r.skip then None
    else if stops_at_raise r.exceptions a.raised then Some causes.Exception else cause_at r a hit a.place
