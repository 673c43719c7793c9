-- Where the runs after a history stop the program, in the words of the run without a debugger.
use Rattle.std.specs.Prelude.{◌≡◌, ◌<◌, ℕ, ◌+◌, List, [], ◌∷◌, ◌++◌, Bool, true, false, ◌&&◌}
use Rattle.cdp_host_isolation.specs.Histories.{Entry, Attach, Tell, Take, Detach, Ran, Shut, FitsAll, steps_made}
use Rattle.cdp_host_isolation.specs.Meanings.{is_paused}
use Rattle.cdp_host_isolation.specs.Seats.{is_attached, seat_of}
use Rattle.js_tree.specs.declared.script.Script.{Script}
use Rattle.js_semantics.specs.Run.{Run}
use Rattle.stepping.specs.declared.arrival.Arrival.{Arrival}
use Rattle.cdp_host.specs.Histories.{whole}
use Rattle.cdp_host.specs.Programs.{arrival_of, plain}
use Rattle.cdp_host.specs.Protocols.{protocol}
use Rattle.cdp_host_laws.specs.Quiet.{AreQuiet}

-- a history that goes on with so many steps at a moment, the last of which loses these sessions for want of memory
abbrev pub then_ran : List Entry → ℕ → ℕ → List ℕ → List Entry
then_ran history n moment gone = history ++ Ran n moment gone ∷ []

-- A history goes on with so many steps at a moment, the last of which loses the sessions of these numbers for want of
-- memory. After no step before the last does the run without a debugger stand where `meets` holds. After the last one
-- the program is paused exactly where it does and the session of this number isn't lost there.
pub record StopsWhere (meets : Run → Bool) (scripts : List Script) (input : List (List ℕ)) (wait : Bool)
    (history : List Entry) (s n moment : ℕ) (gone : List ℕ) : Type 0 where
  pub passes_none : (j : ℕ) → j + 1 < n → meets (plain (steps_made history + j + 1) scripts input) ≡ false
  pub stops_there : (j : ℕ) → n ≡ j + 1
      → is_paused (whole scripts input wait (then_ran history n moment gone))
      ≡ (meets (plain (steps_made history + j + 1) scripts input) && is_attached
      (seat_of s (whole scripts input wait (then_ran history n moment gone)).seats))

-- a history that goes on with one entry
abbrev pub with_entry : List Entry → Entry → List Entry
with_entry history entry = history ++ entry ∷ []

-- where the entry is a run, that stops so
abbrev pub StopsAt : (Run → Bool) → List Script → List (List ℕ) → Bool → ℕ → List Entry → Entry → Type 0
StopsAt meets scripts input wait s history Attach = Unit {0}
StopsAt meets scripts input wait s history (Tell r text) = Unit {0}
StopsAt meets scripts input wait s history (Take r) = Unit {0}
StopsAt meets scripts input wait s history (Detach r) = Unit {0}
StopsAt meets scripts input wait s history (Ran n moment gone) =
    StopsWhere meets scripts input wait history s n moment gone
StopsAt meets scripts input wait s history Shut = Unit {0}

-- Of the entries with which a history goes on each run stops so, as long as the program isn't paused and the session of
-- this number is attached.
abbrev pub StopAlong : List Entry → (Run → Bool) → List Script → List (List ℕ) → Bool → ℕ → List Entry → Type 0
StopAlong [] meets scripts input wait s history = Unit {0}
StopAlong (entry ∷ more) meets scripts input wait s history =
    StopsAt meets scripts input wait s history entry
    × (is_paused (whole scripts input wait (with_entry history entry)) ≡ false
    → is_attached (seat_of s (whole scripts input wait (with_entry history entry)).seats) ≡ true
    → StopAlong more meets scripts input wait s (with_entry history entry))

-- After this history the program isn't paused. However it goes on without a session telling anything: the first state
-- in which `meets` holds stops the program, in whichever run that is, and nothing else does, unless the session of this
-- number is lost or detached.
pub record GoesOnUntil (meets : Run → Bool) (scripts : List Script) (input : List (List ℕ)) (wait : Bool)
    (history : List Entry) (s : ℕ) : Type 0 where
  pub goes_on : is_paused (whole scripts input wait history) ≡ false
  pub runs : (more : List Entry)
      → AreQuiet more
      → FitsAll (protocol scripts) (whole scripts input wait history) more
      → StopAlong more meets scripts input wait s history

-- the program arrived so
abbrev pub arrived : List Script → (Arrival → Bool) → Run → Bool
arrived scripts test r = test (arrival_of scripts r)

-- how many calls are active where a program stands after a history
abbrev pub depth_after : List Script → List (List ℕ) → Bool → List Entry → ℕ
depth_after scripts input wait history = (arrival_of scripts (whole scripts input wait history).program).depth
