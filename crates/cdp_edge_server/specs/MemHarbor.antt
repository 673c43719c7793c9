-- A harbor in memory, and what its calls do to it.
use Rattle.std.specs.Prelude.{Result, Ok, Err, ◌≡◌, ◌⊎◌, ◌<◌, ◌+◌, ◌-◌, ◌==◌, ℕ, List, [], ◌∷◌, ◌++◌, Bool, map, length, All, Contains, if◌then◌else◌}
use Rattle.std.specs.declared.vec.Vec.{Vec}
use Rattle.std.specs.declared.alloc.Global.{Global}
use Rattle.cdp_edge.specs.Outside.{one_more}
use Rattle.cdp_edge_server.specs.Contents.{Calls, called, any_fault}
use Rattle.cdp_edge_server.specs.MemDoor.{MemoryDoor, IsNewDoor, IsUnusedLink}
use Rattle.cdp_edge_server.specs.MemLink.{MemoryLink}
use Rattle.cdp_edge_server.specs.declared.harbor.HarborFault.{HarborFault}
use Rattle.cdp_edge_server.specs.declared.harbor.HarborFault.TheVariants.{Failed, Memory}

-- the doors and links that it has left, those that were given back, how many are out, how often it was asked for doors and links and with what last, how often it was called and failed, and the numbers of the calls that fail, from 1
pub record MemoryHarbor : Type 0 where
  pub doors : List MemoryDoor
  pub dialled : List MemoryLink
  pub kept : List MemoryDoor
  pub hung_up : List MemoryLink
  pub doors_out : ℕ
  pub links_out : ℕ
  pub opens : Calls (ℕ × ℕ)
  pub dials : Calls ℕ
  pub calls : ℕ
  pub faults : ℕ
  pub fails : List ℕ

-- one of these doors has failed
abbrev pub any_failed : List MemoryDoor → Bool
any_failed doors = any_fault (map (λ door. door.faults) doors)

-- the harbor after a call that asks for so many doors on a port, before its answer
abbrev pub asked_to_open : ℕ → ℕ → MemoryHarbor → MemoryHarbor
asked_to_open port count old = record old { opens = called (port, count) old.opens; calls = one_more old.calls }

-- what a call for so many doors does, by its answer: the first ones leave; a listed call, or one that finds too few, fails
abbrev pub OpensDoors : Result (Vec MemoryDoor Global) HarborFault → ℕ → ℕ → MemoryHarbor → MemoryHarbor → Type 0
OpensDoors (Ok doors) port count old new =
    (old.doors ≡ doors.items ++ new.doors)
    × (length doors.items ≡ count)
    × All IsNewDoor doors.items
    × (new ≡ record (asked_to_open port count old) { doors = new.doors; doors_out = old.doors_out + count })
OpensDoors (Err Failed) port count old new =
    (Contains old.fails (one_more old.calls) ⊎ (length old.doors < count))
    × (new ≡ record (asked_to_open port count old) { faults = one_more old.faults })
OpensDoors (Err Memory) port count old new = new ≡ asked_to_open port count old

-- the harbor after a call that dials a port, before its answer
abbrev pub asked_to_dial : ℕ → MemoryHarbor → MemoryHarbor
asked_to_dial port old = record old { dials = called port old.dials; calls = one_more old.calls }

-- what a call that dials does, by its answer: the first link leaves; a listed call, or one that finds none, fails
abbrev pub Dials : Result MemoryLink HarborFault → ℕ → MemoryHarbor → MemoryHarbor → Type 0
Dials (Ok link) port old new =
    (old.dialled ≡ link ∷ new.dialled)
    × IsUnusedLink link
    × (new ≡ record (asked_to_dial port old) { dialled = new.dialled; links_out = old.links_out + 1 })
Dials (Err Failed) port old new =
    (Contains old.fails (one_more old.calls) ⊎ (old.dialled ≡ []))
    × (new ≡ record (asked_to_dial port old) { faults = one_more old.faults })
Dials (Err Memory) port old new = new ≡ asked_to_dial port old

-- the harbor with these doors back
abbrev pub after_shut : List MemoryDoor → MemoryHarbor → MemoryHarbor
after_shut doors old = record old {
  kept = old.kept ++ doors;
  doors_out = old.doors_out - length doors;
  faults = if any_failed doors then one_more old.faults else old.faults;
}

-- the harbor with this link back
abbrev pub after_hang_up : MemoryLink → MemoryHarbor → MemoryHarbor
after_hang_up link old = record old {
  hung_up = old.hung_up ++ link ∷ [];
  links_out = old.links_out - 1;
  faults = if link.faults == 0 then old.faults else one_more old.faults;
}
