-- How many objects and breakpoints a session may hold, how far it counts, and what its evaluations may keep
-- (docs/PROTOCOL.md).
use Rattle.std.specs.Prelude.{◌≡◌, ℕ, ◌+◌, ◌-◌, ◌≤◌, ◌^◌, length}
use Rattle.breakpoints.specs.Breakpoints as breakpoints
use Rattle.js_semantics_limits.specs.Balances.{units_in}
use Rattle.object_groups.specs.Handles as handles
use Rattle.pure_eval.specs.Workspaces.{Workspace}
use Rattle.cdp_session.specs.Sessions.{Session}

-- 100,000 objects at a time, and 2^62 in all
abbrev pub HoldsFew : handles.HeldHandles → Type 0
HoldsFew h = (length h.held ≤ 100000) × (h.made ≤ 2 ^ 62)

-- 1,000 breakpoints
abbrev pub HasFew : breakpoints.HeldBreakpoints → Type 0
HasFew b = length b.set ≤ 1000

-- a session holds no more than that, and counts at most 2^62 exceptions
pub record IsWithinLimits (x : Session) : Type 0 where
  pub objects : HoldsFew x.handles
  pub breakpoints : HasFew x.breakpoints
  pub exceptions : x.exceptions ≤ 2 ^ 62

-- how many sources of evaluations are kept, each in a cell for which no room is taken
abbrev pub kept_sources : Workspace → ℕ
kept_sources w = length w.program - w.scripts

-- 65,536 cells beside those of the sources, and 1,048,576 units of text, those of the sources among them; what may
-- still be made is what is left of these
pub record IsWithinScratch (w : Workspace) : Type 0 where
  pub cells : length w.scratch.cells ≤ 65536 + kept_sources w
  pub units : units_in w.scratch.cells ≤ 1048576
  pub cells_left : length w.scratch.cells + w.scratch.room.cells ≡ 65536 + kept_sources w
  pub units_left : units_in w.scratch.cells + w.scratch.room.units ≡ 1048576
