-- The breakpoints of a session.
use Rattle.std.specs.Prelude.{◌≡◌, ℕ, Bool, true, not, ◌&&◌, List, [], ◌∷◌, ◌++◌, length, filter, nat_le, bytes_eq, if◌then◌else◌, Option, Some, None, Result, Ok, Err}
use Rattle.std.specs.List.{list_any}
use Rattle.cdp_text.specs.declared.position.Place.{Place}
use Rattle.js_tree.specs.declared.script.Script.{Script}
use Rattle.breakpoints.specs.declared.breakpoint.Breakpoint.{Breakpoint}
use Rattle.breakpoints.specs.declared.fault.AddFault.{AddFault}
use Rattle.breakpoints.specs.declared.fault.AddFault.TheVariants as faults
use Rattle.breakpoints.specs.Ids.{place_id}
use Rattle.breakpoints.specs.Resolving.{resolved_at}
use Rattle.breakpoints.specs.Hits.{hits_in, stands_at}
use Rattle.breakpoints.specs.declared.breakpoints.TheConstants.{MOST}

-- the breakpoints in the order in which they were set, and whether they stop the program
pub record HeldBreakpoints : Type 0 where
  pub set : List Breakpoint
  pub active : Bool

-- how many breakpoints a session may have
abbrev pub most : ℕ
most = MOST

-- no breakpoint is set; those that come will stop the program
abbrev pub none_set : HeldBreakpoints
none_set = record { set = []; active = true }

-- a breakpoint has this id
abbrev pub has_id : List ℕ → Breakpoint → Bool
has_id id b = bytes_eq b.id id

-- ---- setting

-- why no breakpoint of this id is set, if none is
abbrev pub fault_of : List ℕ → HeldBreakpoints → Option AddFault
fault_of id s =
    if list_any (has_id id) s.set then Some (faults.Exists id) else if nat_le most (length s.set) then Some
    (faults.Full most) else None

-- why none is set at a place, by the place to which it resolves, if there is one
abbrev pub fault_for : Option Place → Place → HeldBreakpoints → Option AddFault
fault_for None place s = Some faults.Unresolved
fault_for (Some resolved) place s = fault_of (place_id place) s

-- why no breakpoint is set at a place of one of these scripts, if none is
abbrev pub fault_at : Place → List Script → HeldBreakpoints → Option AddFault
fault_at place scripts s = fault_for (resolved_at place scripts) place s

-- what is answered where this is the fault, or none is; want of memory says nothing
abbrev pub Answers : {A : Type 0} → Option AddFault → Result A AddFault → Type 0
Answers fault (Ok x) = fault ≡ None
Answers fault (Err faults.Memory) = Unit {0}
Answers fault (Err f) = fault ≡ Some f

-- one breakpoint more
abbrev pub with_breakpoint : Breakpoint → HeldBreakpoints → HeldBreakpoints
with_breakpoint b s = record s { set = s.set ++ b ∷ [] }

-- a breakpoint of this id and condition, which resolved to these places
abbrev pub breakpoint_of : List ℕ → Option (List ℕ) → List Place → Breakpoint
breakpoint_of id condition places = record { id = id; condition = condition; places = places }

-- ---- removing

-- a breakpoint hasn't this id
abbrev pub has_another_id : List ℕ → Breakpoint → Bool
has_another_id id b = not (has_id id b)

-- without the breakpoint of this id, if there is one
abbrev pub without : List ℕ → HeldBreakpoints → HeldBreakpoints
without id s = record s { set = filter (has_another_id id) s.set }

-- ---- hits

-- where breakpoints aren't active, none is hit
abbrev pub hits_at : Place → HeldBreakpoints → List Breakpoint
hits_at place s = if s.active then hits_in place s.set else []

-- an active breakpoint stands at a place
abbrev pub is_hit : Place → HeldBreakpoints → Bool
is_hit place s = s.active && list_any (stands_at place) s.set

-- the id of a breakpoint
abbrev pub id_of : Breakpoint → List ℕ
id_of b = b.id
