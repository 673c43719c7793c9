-- What becomes of the objects that a session holds (Chrome DevTools Protocol 1.3, `Runtime.RemoteObjectId`).
use Rattle.std.specs.Prelude.{◌≡◌, ℕ, ◌+◌, ◌≤◌, ◌<◌, ◌⊎◌, Bool, false, List, [], ◌∷◌, nat_eq, bytes_eq, codes, if◌then◌else◌, Option, Some, None}
use Rattle.serde_json.specs.Read.{read}
use Rattle.cdp_json.specs.Commands.{reading_of}
use Rattle.cdp_json.specs.declared.command.Reading.{Reading}
use Rattle.cdp_json.specs.declared.command.Reading.TheVariants as readings
use Rattle.cdp_json.specs.declared.params.Params.{Params}
use Rattle.cdp_json.specs.declared.params.Params.TheVariants as params
use Rattle.object_groups.specs.Handles as handles
use Rattle.object_groups.specs.Numbers.{AllBelow, IsAscending}
use Rattle.object_groups.specs.declared.handle.Handle.{Handle}
use Rattle.remote_objects.specs.Ids.{number_in_id}
use Rattle.cdp_session.specs.Objects.{numbered}
use Rattle.cdp_session.specs.Sessions.{Session}
use Rattle.cdp_session_laws.specs.Events.{Event, Texted, Resumed, after_event}

-- ---- what releases an object

-- a number is that of a handle, if there is a number
abbrev pub is_of : Option ℕ → Handle → Bool
is_of None h = false
is_of (Some n) h = nat_eq n h.number

-- what is described at a stop is in the group of this name
abbrev pub of_a_stop : List ℕ
of_a_stop = codes "backtrace"

-- the group that a handle is in, if it is in one, has this name
abbrev pub is_in_group : List ℕ → Option (List ℕ) → Bool
is_in_group name None = false
is_in_group name (Some group) = bytes_eq group name

-- the commands that release a handle: the one that names its id, the one that names its group, and the one that
-- disables the debugger, for what was described at a stop
abbrev pub releases : Params → Session → Handle → Bool
releases (params.ReleaseObject id) x h = is_of (number_in_id x.number id) h
releases (params.ReleaseObjectGroup group) x h = is_in_group group h.group
releases params.DebuggerDisable x h = is_in_group of_a_stop h.group
releases other x h = false

-- a text that is read so releases it
abbrev pub reading_releases : Reading → Session → Handle → Bool
reading_releases (readings.Command id method params) x h = releases params x h
reading_releases reading x h = false

-- this releases it: such a text, or, for what was described at a stop, that the program goes on
abbrev pub ends : Event → Session → Handle → Bool
ends (Texted s text) x h = reading_releases (reading_of (read text)) x h
ends Resumed x h = is_in_group of_a_stop h.group
ends other x h = false

-- none of these, one after another, releases it
abbrev pub NoneEnds : List Event → Session → Handle → Type 0
NoneEnds [] x h = Unit {0}
NoneEnds (e ∷ es) x h = (ends e x h ≡ false) × NoneEnds es (after_event e x) h

-- ---- what becomes of a number

-- the numbers ascend, and were all made
pub record IsOrdered (h : handles.HeldHandles) : Type 0 where
  pub below : AllBelow (h.made + 1) h.held
  pub ascending : IsAscending h.held

-- a handle, if there is one that isn't released
abbrev pub unless_ended : Event → Session → Option Handle → Option Handle
unless_ended e x None = None
unless_ended e x (Some h) = if ends e x h then None else Some h

-- What an event leaves of the handles: each that was made before is held just as it was, if it was, unless the event
-- releases it. The count of those that were made doesn't fall, and none is held with a greater number.
pub record LeavesHandles (e : Event) (x : Session) : Type 0 where
  pub session : (after_event e x).number ≡ x.number
  pub counted : x.handles.made ≤ (after_event e x).handles.made
  pub each : (n : ℕ)
      → n ≤ x.handles.made
      → numbered (after_event e x).handles.held n ≡ unless_ended e x (numbered x.handles.held n)
  pub no_other : (n : ℕ)
      → (after_event e x).handles.made < n
      → numbered (after_event e x).handles.held n ≡ None

-- what is held by a number is what was held by it, or nothing is
abbrev pub IsAsBeforeOrGone : handles.HeldHandles → handles.HeldHandles → ℕ → Type 0
IsAsBeforeOrGone old new n = (numbered new.held n ≡ numbered old.held n) ⊎ (numbered new.held n ≡ None)

-- no number is used again: as many were made as before, or more, and what is held by one of the old numbers is what was
-- held by it, or nothing is
pub record KeepsNumbers (old new : handles.HeldHandles) : Type 0 where
  pub counted : old.made ≤ new.made
  pub each : (n : ℕ) → n ≤ old.made → IsAsBeforeOrGone old new n
