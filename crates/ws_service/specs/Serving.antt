-- What serving a port to its end leaves.
use Rattle.std.specs.Prelude.{◌≡◌, ◌⊎◌, ◌<◌, ◌||◌, ℕ, zero, suc, List, [], ◌∷◌, ◌++◌, map, All, Bool, true, false, Option, Some, None}
use Rattle.cdp_host_isolation.specs.Histories.{Entry, Attach, Tell, Take, Detach, Ran, Shut}
use Rattle.cdp_host_isolation.specs.Makers.{by, entries_of}
use Rattle.history_lock.specs.Histories.{IsSpent}
use Rattle.cdp_edge_server.specs.Contents.{Tended, adds}
use Rattle.ws_service_devtools.specs.Links.{seen}
use Rattle.cdp_host_turns.specs.Debuggings.{Debugging, IsHistory}
use Rattle.ws_service.specs.Joins.{IsServedDoor}
use Rattle.ws_service.specs.Programs.{AreLeft, Counts, FindsDue, GainsLines, HasReason, Output, PrintsOn, may_cut}
use Rattle.ws_service.specs.declared.clients.Clients.{Clients}
use Rattle.ws_service.specs.declared.clients.Clients.TheVariants.{Plain, Devtools}
use Rattle.ws_service.specs.declared.door.DoorEnd.{DoorEnd}
use Rattle.ws_service.specs.declared.door.DoorEnd.TheVariants as one
use Rattle.ws_service.specs.declared.ends.DoorsEnd.{DoorsEnd}
use Rattle.ws_service.specs.declared.ends.DoorsEnd.TheVariants as all
use Rattle.ws_service.specs.declared.ends.Ends.{Ends}
use Rattle.ws_service.specs.declared.program.RunEnd.{RunEnd}

-- ---- doors together

-- doors where none has failed, and for one more no ticket was left
abbrev pub with_spent : DoorsEnd → DoorsEnd
with_spent all.Over = all.Spent
with_spent all.Failed = all.Failed
with_spent all.Spent = all.Spent

-- how doors ended together, and one more that ended so
abbrev pub with_door : DoorsEnd → Option DoorEnd → DoorsEnd
with_door doors None = doors
with_door doors (Some (one.Over state)) = doors
with_door doors (Some (one.Fault unshut)) = all.Failed
with_door doors (Some (one.Spent ticket)) = with_spent doors

-- a door failed
abbrev pub has_failed : Option DoorEnd → Bool
has_failed None = false
has_failed (Some (one.Over state)) = false
has_failed (Some (one.Fault unshut)) = true
has_failed (Some (one.Spent ticket)) = false

-- no ticket was left for it
abbrev pub was_spent : Option DoorEnd → Bool
was_spent None = false
was_spent (Some (one.Over state)) = false
was_spent (Some (one.Fault unshut)) = false
was_spent (Some (one.Spent ticket)) = true

-- one of these doors ended so
abbrev pub any_door : (Option DoorEnd → Bool) → List (Option DoorEnd) → Bool
any_door test [] = false
any_door test (door ∷ doors) = test door || any_door test doors

-- how doors ended that ended so each: one failed; or none, and for one no ticket was left; or neither
abbrev pub IsEndOfDoors : DoorsEnd → List (Option DoorEnd) → Type 0
IsEndOfDoors all.Failed doors = any_door has_failed doors ≡ true
IsEndOfDoors all.Spent doors = (any_door has_failed doors ≡ false) × (any_door was_spent doors ≡ true)
IsEndOfDoors all.Over doors = (any_door has_failed doors ≡ false) × (any_door was_spent doors ≡ false)

-- ---- shuts

-- an entry shuts the program
abbrev pub shuts : Entry → Bool
shuts Attach = false
shuts (Tell s text) = false
shuts (Take s) = false
shuts (Detach s) = false
shuts (Ran steps moment lost) = false
shuts Shut = true

-- one of these entries shuts the program
abbrev pub has_shut : List Entry → Bool
has_shut [] = false
has_shut (entry ∷ entries) = shuts entry || has_shut entries

-- where the program may have been shut: its output couldn't be written, or a door failed
abbrev pub MayHaveShut : Ends → Type 0
MayHaveShut ends = (may_cut (Some ends.run) ≡ true) ⊎ (ends.doors ≡ all.Failed)

-- ---- one history

-- the numbers from 0 on, so many
abbrev pub numbers_below : ℕ → List ℕ
numbers_below zero = []
numbers_below (suc n) = numbers_below n ++ n ∷ []

-- The run of the program, over a history: its entries there, what its turns found, what a sink was given of what the
-- steps print, and how it ended.
pub record IsProgramRun (d : Debugging) (k : ℕ) (moment : Option ℕ) (old new : Output) (end : RunEnd)
    (h : List (ℕ × Entry)) : Type 0 where
  pub left : AreLeft moment (Some end) (by k h)
  pub due : FindsDue d k [] h (Some end)
  pub texts : List (List ℕ)
  pub prints : PrintsOn d [] h texts
  pub gains : GainsLines (may_cut (Some end)) old.content new.content texts
  pub reason : HasReason d (Some end) h (IsSpent h)
  pub counts : Counts (Some end) old.faults new.faults

-- a door that was served: the number of the pass that served it, what it tells now, and how that ended
pub record ServedDoor : Type 0 where
  pub number : ℕ
  pub door : Tended
  pub end : Option DoorEnd

-- So many doors were served beside the program, to the end, and these came back. Over the one history, each entry is the
-- program's, whose pass has the number behind theirs, or that of the pass of a door; the program ran and each door was
-- served as is said of them, and no ticket was left for a turn only where none is left after that history; the program
-- was shut only where its output couldn't be written or a door failed.
pub record IsServing (d : Debugging) (n : ℕ) (moment : Option ℕ) (old new : Output) (ends : Ends)
    (h : List (ℕ × Entry)) (doors : List ServedDoor) : Type 0 where
  pub history : IsHistory d h
  pub runs : IsProgramRun d n moment old new ends.run h
  pub served : All (λ (door : ServedDoor). IsServedDoor d door.number h (IsSpent h) door.door door.end) doors
  pub numbers : map (λ (door : ServedDoor). door.number) doors ≡ numbers_below n
  pub others : (x : ℕ) → n < x → by x h ≡ []
  pub ended : IsEndOfDoors ends.doors (map (λ (door : ServedDoor). door.end) doors)
  pub shut : has_shut (entries_of h) ≡ true → MayHaveShut ends

-- ---- doors of a harbor

-- what a door through which these clients are let in tells, by what the harbor's own door tells
abbrev pub seen_by : Clients → Tended → Tended
seen_by Plain door = door
seen_by Devtools door = seen door

-- a harbor took back doors more, which tell this through doors over them
abbrev pub AreKept : (Tended → Tended) → Option (List Tended) → Option (List Tended) → List Tended → Type 0
AreKept seen old new doors = (kept : List Tended) × (new ≡ adds old kept) × (map seen kept ≡ doors)
