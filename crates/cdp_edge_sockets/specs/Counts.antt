-- What doors and harbors over sockets count.
use Rattle.std.specs.Prelude.{ℕ, List, None, Bool, map, if◌then◌else◌}
use Rattle.cdp_edge.specs.Outside.{one_more}
use Rattle.cdp_edge_server.specs.Contents.{Calls, IsNew, any_fault}

-- how often a door was asked for a link, and how often it failed
pub record DoorCounts : Type 0 where
  pub asked : ℕ
  pub faults : ℕ

-- how often a harbor was asked for doors and links and with what last, and how often it failed
pub record HarborCounts : Type 0 where
  pub opens : Calls (ℕ × ℕ)
  pub dials : Calls ℕ
  pub faults : ℕ

-- a door that was never asked and never failed
abbrev pub IsNewDoor : DoorCounts → Type 0
IsNewDoor door = IsNew (record { faults = door.faults; asked = door.asked; served = None; is_out = None })

-- one of these doors has failed
abbrev pub any_failed : List DoorCounts → Bool
any_failed doors = any_fault (map (λ door. door.faults) doors)

-- the harbor with these doors back
abbrev pub after_shut : List DoorCounts → HarborCounts → HarborCounts
after_shut doors old = record old { faults = if any_failed doors then one_more old.faults else old.faults }
