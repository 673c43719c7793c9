-- A table of handles by number.
use Rattle.std.specs.Prelude.{◌≡◌, ℕ, List, map}
use Rattle.std.specs.List.{count_by}
use Rattle.std.specs.Map.{values_of}
use Rattle.object_groups.specs.declared.handle.Handle.{Handle}
use Rattle.object_groups.specs.Handles.{is_on_scratch}
use Rattle.object_groups.specs.Numbers.{IsAscending}

-- a handle behind its number
abbrev pub entry_of : Handle → ℕ × Handle
entry_of h = (h.number, h)

-- how many are on scratch cells
abbrev pub scratch_count : List Handle → ℕ
scratch_count hs = count_by is_on_scratch hs

-- the entries have handles by their numbers, which ascend, and so many of them are on scratch cells
pub record IsTable (entries : List (ℕ × Handle)) (on_scratch : ℕ) : Type 0 where
  pub keyed : entries ≡ map entry_of (values_of entries)
  pub ascending : IsAscending (values_of entries)
  pub counted : on_scratch ≡ scratch_count (values_of entries)
