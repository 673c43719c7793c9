-- What the parts of a session's handles are to one another.
use Rattle.std.specs.Prelude.{ℕ, ◌+◌, ◌≤◌, List, [], ◌∷◌, filter}
use Rattle.object_groups.specs.declared.handle.Handle.{Handle}
use Rattle.object_groups.specs.declared.groups.Groups.{Groups}
use Rattle.object_groups.specs.declared.fault.TheConstants.{MOST_MADE}
use Rattle.object_groups.specs.Handles.{has_another_number}
use Rattle.object_groups.specs.Numbers.{AllBelow, IsAscending}
use Rattle.object_groups.specs.Groups.{AreGroupsOf}

-- the numbers ascend and were all made, no more than may be, and each group has those of its handles
pub record IsIndexed (held : List Handle) (made : ℕ) (groups : Groups) : Type 0 where
  pub below : AllBelow (made + 1) held
  pub ascending : IsAscending held
  pub few : made ≤ MOST_MADE
  pub grouped : AreGroupsOf held groups

-- a list without the handles of these numbers, taken out one after another
abbrev pub without_all : List ℕ → List Handle → List Handle
without_all [] hs = hs
without_all (n ∷ ns) hs = without_all ns (filter (has_another_number n) hs)
