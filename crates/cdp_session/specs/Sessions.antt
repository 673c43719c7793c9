-- What a session keeps.
use Rattle.std.specs.Prelude.{ℕ, ◌+◌, ◌^◌, nat_lt, List, [], ◌∷◌, ◌++◌, Bool, false, not, ◌||◌, if◌then◌else◌}
use Rattle.std.specs.List.{list_any}
use Rattle.stepping.specs.declared.rules.Rules.{Rules}
use Rattle.stepping.specs.Rules.{no_rules}
use Rattle.breakpoints.specs.Breakpoints as breakpoints
use Rattle.breakpoints.specs.Breakpoints.{none_set}
use Rattle.object_groups.specs.Handles as handles
use Rattle.object_groups.specs.Handles.{is_on_scratch, none_made, without_group}
use Rattle.pure_eval.specs.Workspaces.{Workspace, begun, emptied_workspace}
use Rattle.remote_objects.specs.CallFrames.{backtrace}

-- its number, what it asks for, whether it has the domain Runtime enabled, its breakpoints, the objects that it holds,
-- what its evaluations made and kept, how many exceptions it was told of, and the texts that wait for it
pub record Session : Type 0 where
  pub number : ℕ
  pub rules : Rules
  pub runtime : Bool
  pub breakpoints : breakpoints.HeldBreakpoints
  pub handles : handles.HeldHandles
  pub workspace : Workspace
  pub exceptions : ℕ
  pub outbox : List (List ℕ)

-- one of this number that was attached just now, whose evaluations begin with this
abbrev pub fresh : ℕ → Workspace → Session
fresh number workspace =
    record {
      number = number;
      rules = no_rules;
      runtime = false;
      breakpoints = none_set;
      handles = none_made;
      workspace = workspace;
      exceptions = 0;
      outbox = [];
    }

-- a session with texts after those that wait
abbrev pub sent : List (List ℕ) → Session → Session
sent texts x = record x { outbox = x.outbox ++ texts }

-- a session whose texts were all handed out
abbrev pub emptied : Session → Session
emptied x = record x { outbox = [] }

-- a session with other rules
abbrev pub with_rules : Rules → Session → Session
with_rules r x = record x { rules = r }

-- a session with the domain Runtime enabled, or not
abbrev pub with_runtime : Bool → Session → Session
with_runtime b x = record x { runtime = b }

-- a session with other breakpoints
abbrev pub with_breakpoints : breakpoints.HeldBreakpoints → Session → Session
with_breakpoints b x = record x { breakpoints = b }

-- a session that holds other objects
abbrev pub with_handles : handles.HeldHandles → Session → Session
with_handles h x = record x { handles = h }

-- what a session has that lost the memory for its evaluations, and is to be dropped
abbrev pub no_workspace : Workspace
no_workspace = begun []

-- a session with what other evaluations made and kept
abbrev pub with_workspace : Workspace → Session → Session
with_workspace w x = record x { workspace = w }

-- told of one exception more; the count stays at 2^62
abbrev pub with_exception : Session → Session
with_exception x = record x { exceptions = if nat_lt x.exceptions (2 ^ 62) then x.exceptions + 1 else x.exceptions }

-- where none of these objects is in a cell of the session's evaluations, those cells are given up, and the sources of
-- the evaluations with them
abbrev pub workspace_for : handles.HeldHandles → Workspace → Workspace
workspace_for h w = if list_any is_on_scratch h.held then w else emptied_workspace w

-- holding on to these objects alone
abbrev pub holding : handles.HeldHandles → Session → Session
holding h x = record x { handles = h; workspace = workspace_for h x.workspace }

-- without the objects of the stop that it was told of
abbrev pub without_backtrace : Session → Session
without_backtrace x = holding (without_group backtrace x.handles) x

-- a text for a session that has the debugger enabled
abbrev pub if_enabled : Session → List ℕ → List (List ℕ)
if_enabled x text = if x.rules.enabled then text ∷ [] else []

-- it names no stop: it isn't enabled, or it skips pauses
abbrev pub is_silent : Session → Bool
is_silent x = not x.rules.enabled || x.rules.skip
