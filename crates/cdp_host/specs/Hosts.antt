-- What a host is.
use Rattle.std.specs.Prelude.{◌≡◌, ◌-◌, ◌++◌, ◌∷◌, List, [], ℕ, map, length, All, Bool, true, false, is_some, if◌then◌else◌, Option, None}
use Rattle.std.specs.Option.{option_map}
use Rattle.cdp_host_isolation.specs.Histories.{Entry}
use Rattle.cdp_host_isolation.specs.Meanings.{is_paused, mapped, next_number, settle, with_seats}
use Rattle.cdp_host_isolation.specs.Runs.{AllFit, IsLongest}
use Rattle.cdp_host_isolation.specs.Seats.{each, is_attached, numbers_from, reported, some}
use Rattle.cdp_host_isolation.specs.Standing.{BrokenAs, LeavesAs, StandsAs, fallen_in, less}
use Rattle.cdp_host_isolation.specs.declared.phase.Phase.TheVariants.{Woken, Running}
use Rattle.cdp_host_isolation.specs.declared.seat.Seat.{Seat}
use Rattle.js_tree.specs.declared.script.Script.{Script}
use Rattle.js_heap.specs.declared.value.Value.{Value}
use Rattle.js_semantics.specs.Run.{Run}
use Rattle.js_semantics.specs.Frames.{active, at, is_debugger, thrown}
use Rattle.js_machine_inspection.specs.Sources.{spans_in}
use Rattle.js_heap_memory.specs.Heaps.{Heap, heap_world}
use Rattle.js_machine.specs.Machines.{Machine, program_of, term_of, run_at, IsKept}
use Rattle.js_machine.specs.Standing.{source_of, until_end, holds_until_end}
use Rattle.locations.specs.declared.spot.Spot.{Spot}
use Rattle.locations.specs.Locations.{break_locations}
use Rattle.breakpoints.specs.declared.holding.Holding.{Holding}
use Rattle.stepping.specs.declared.arrival.Arrival.{Arrival}
use Rattle.cdp_session.specs.declared.situation.Pause.{Pause}
use Rattle.cdp_session.specs.Sessions.{Session}
use Rattle.cdp_session.specs.Situations.{Standing}
use Rattle.frames_scopes.specs.Places.{starts_of}
use Rattle.cdp_host_seats.specs.Fallbacks.{Fallback, HasRoom}
use Rattle.cdp_host_seats.specs.Losses.{losses_from}
use Rattle.cdp_host_seats.specs.declared.fallback.Fallback.{Fallback as HeldFallback}
use Rattle.cdp_host_seats.specs.declared.losses.SessionLost.{SessionLost}
use Rattle.cdp_host.specs.Arrivals.{place_at, is_uncaught, IsShort}
use Rattle.cdp_host.specs.Histories.{IsHistory, Meaning, apply, whole}
use Rattle.cdp_host.specs.Indexing.{IsIndexOf}
use Rattle.cdp_session.specs.Code.{code_of}
use Rattle.cdp_host.specs.Programs.{printed_of}
use Rattle.cdp_host.specs.Protocols.{protocol}
use Rattle.cdp_host.specs.Rules.{printed_between}
use Rattle.cdp_host.specs.Standings.{ending_of, standing_of}
use Rattle.cdp_host.specs.States.{state_of}
use Rattle.cdp_host.specs.Steps.{Step}
use Rattle.cdp_host_turns.specs.declared.state.State.{State}
use Rattle.cdp_host_turns.specs.declared.state.State.TheVariants.{Broken}

-- a program as a host keeps it
pub record Parts : Type 0 where
  pub machine : Machine
  pub heap : Heap

-- the run that it is, behind the texts that were handed out
abbrev pub machine_run : Machine → Heap → List (List ℕ) → Run
machine_run m h taken = run_at m (heap_world m.names h) taken

-- the run that the parts of a machine mean, behind these printed texts
abbrev pub run_with : List (List ℕ) → Parts → Run
run_with taken p = machine_run p.machine p.heap taken

-- where the step that led there left a machine
abbrev pub machine_arrival : List Script → Machine → Arrival
machine_arrival scripts m = record {
  place = place_at scripts (source_of m) (until_end m.ended (at (spans_in scripts (source_of m)) (term_of m)));
  depth = length m.context.frames - 1;
  debugger = holds_until_end m.ended (is_debugger (active (term_of m)));
  raised = option_map is_uncaught (until_end m.ended (thrown (term_of m)));
}

-- how a program stands that a host keeps; the texts that were handed out don't show
abbrev pub machine_standing : List Script → Machine → Heap → Standing
machine_standing scripts m h = standing_of scripts (machine_run m h [])

-- how a program stands whose machine and cells a meaning holds
abbrev pub parts_standing : List Script → Parts → Standing
parts_standing scripts p = machine_standing scripts p.machine p.heap

-- what the step told that led a machine there and printed these values, if it printed
abbrev pub machine_step : List Script → Machine → Heap → Option (List Value) → Bool → Step
machine_step scripts m h values first = record {
  standing = machine_standing scripts m h;
  arrival = machine_arrival scripts m;
  values = values;
  ending = ending_of scripts (machine_run m h []);
  first = first;
}

-- ---- what is kept beside a program

-- all but the program of a host that isn't held, where its next step is the first of a program that waited, or isn't
abbrev pub beside : Bool → ℕ → List (Seat Session) → Run → Meaning Run
beside first stops seats r =
    record {
      program = r;
      phase = if first then Woken else Running;
      stop = None;
      stops = stops;
      shut = false;
      seats = seats;
    }

-- the stop behind so many, with so many calls active
abbrev pub pause_behind : ℕ → ℕ → Pause
pause_behind stops depth = record { number = next_number stops; depth = depth }

-- all but the program of a host whose last step stopped it with so many calls active, or didn't stop it
abbrev pub beside_behind : Option ℕ → ℕ → List (Seat Session) → Run → Meaning Run
beside_behind stopped stops seats r = record {
  program = r;
  phase = Running;
  stop = option_map (pause_behind stops) stopped;
  stops = if is_some stopped then next_number stops else stops;
  shut = false;
  seats = seats;
}

-- the numbers are where the lines of scripts begin whose positions are of 32 bits
pub record AreLines (scripts : List Script) (lines : List (List ℕ)) : Type 0 where
  pub starts : lines ≡ map starts_of scripts
  pub short : All IsShort scripts

-- the scripts, what is kept of the program and the sessions, and whether want of memory in a run broke the host; what
-- it falls back to where it does, and the losses that it has to hand out then
pub record HostState : Type 0 where
  pub scripts : List Script
  pub meaning : Meaning Parts
  pub broken : Bool
  pub fallback : Fallback Session
  pub fallen : List SessionLost

-- what a host means, behind the texts that its runs have handed out
abbrev pub meaning_with : HostState → List (List ℕ) → Meaning Run
meaning_with host taken = mapped (run_with taken) host.meaning

-- the state that it tells: the first that holds
abbrev pub state_at : HostState → List (List ℕ) → State
state_at host taken = if host.broken then Broken else state_of (meaning_with host taken)

-- ---- standing for a history

-- no session is attached
abbrev pub NoneAttached : List (Seat Session) → Type 0
NoneAttached seats = some is_attached seats ≡ false

-- A host stands for a history of its scripts with this input, where they may be to wait, whose runs have handed out all
-- that they printed: it is what the history means, but for sessions that a resume lost for want of memory, of which the
-- next run tells. A broken one has the seats that the history leaves: none of them is attached, and none waits for a
-- run.
pub record StandsFor (scripts : List Script) (input : List (List ℕ)) (wait : Bool) (host : HostState)
    (history : List Entry) : Type 0 where
  pub runs : host.scripts ≡ scripts
  pub fits : IsHistory scripts input wait history
  pub means : host.broken ≡ false
      → StandsAs (meaning_with host (printed_of (whole scripts input wait history).program))
      (whole scripts input wait history)
  pub lost : host.broken ≡ true → BrokenAs host.meaning.seats (whole scripts input wait history).seats

-- what a call with this entry, which makes no steps, leaves of a host
pub record Leaves (old : HostState) (entry : Entry) (new : HostState) : Type 0 where
  pub runs : new.scripts ≡ old.scripts
  pub works : new.broken ≡ old.broken
  pub fallen : new.fallen ≡ old.fallen
  pub means : (taken : List (List ℕ)) → (is_paused old.meaning ≡ true → fallen_in old.meaning.seats ≡ [])
      → LeavesAs (protocol old.scripts) (meaning_with old taken) entry (meaning_with new taken)

-- a host that stands for a history stands for it with this entry behind a call
abbrev pub CarriesOn : HostState → Entry → HostState → Type 0
CarriesOn old entry new = (scripts : List Script) (input : List (List ℕ)) (wait : Bool) (history : List Entry)
    → StandsFor scripts input wait old history → StandsFor scripts input wait new (history ++ entry ∷ [])

-- where a host stands for a history, this entry behind it prints these texts
abbrev pub PrintsOn : HostState → Entry → List (List ℕ) → Type 0
PrintsOn old entry printed = (scripts : List Script) (input : List (List ℕ)) (wait : Bool) (history : List Entry)
    → StandsFor scripts input wait old history
    → printed_of (apply scripts (whole scripts input wait history) entry).program
    ≡ printed_of (whole scripts input wait history).program ++ printed

-- the numbers of all sessions that a host ever had
abbrev pub everybody : HostState → List ℕ
everybody host = numbers_from 1 (length host.meaning.seats)

-- What a run of at most so many steps at a moment does to a host that works: it makes the longest run, reports the
-- losses, and goes on where no session is left that has the debugger enabled. That may lose sessions for want of
-- memory, of which the next run tells.
pub record RunsTo (scripts : List Script) (moment most : ℕ) (m : Meaning Run) (steps : ℕ) (printed : List (List ℕ))
    (lost : List SessionLost) (n : Meaning Run) : Type 0 where
  pub middle : Meaning Run
  pub longest : IsLongest (protocol scripts) moment most m middle steps
  pub prints : printed ≡ printed_between m.program middle.program
  pub reports : lost ≡ losses_from 1 middle.seats
  pub is : n ≡ less n.seats (settle (protocol scripts) (with_seats (each reported middle.seats) middle))
  pub all_there : is_paused n ≡ true → fallen_in n.seats ≡ []

-- ---- want of memory in a run

-- what is handed out then, and what a host falls back to, is what it was
pub record KeepsFallback (old new : HostState) : Type 0 where
  pub fallback : new.fallback ≡ old.fallback
  pub fallen : new.fallen ≡ old.fallen

-- a host fell back
pub record FallsBack (old new : HostState) : Type 0 where
  pub broken : new.broken ≡ true
  pub seats : new.meaning.seats ≡ old.fallback.seats
  pub fallen : new.fallen ≡ old.fallback.losses

-- ---- every host

-- What holds of every host: its machine has the code of its scripts, and beside them stand the same ones with their
-- code, where their lines begin, and where their break locations are. Until want of memory breaks it, all texts were
-- handed out, the machine isn't given up, no loss is to be handed out, and there is room for what it falls back to with
-- so many seats; then it has no session, nor has what it falls back to. The index has the places of each attached
-- session, and no others. The texts that wait fit.
pub record IsSound (scripts coded : List Script) (starts : List (List ℕ)) (found : List (List Spot))
    (machine : Machine) (broken : Bool) (seats : List (Seat Session)) (count : ℕ) (index : List Holding)
    (fallback : HeldFallback Session) (fallen : List SessionLost)
    : Type 0 where
  pub lines : AreLines scripts starts
  pub spots : found ≡ map break_locations scripts
  pub code : program_of machine ≡ code_of scripts
  pub shared : coded ≡ scripts
  pub handed : broken ≡ false → machine.context.printed ≡ []
  pub kept : broken ≡ false → IsKept machine.ended
  pub quiet : broken ≡ false → fallen ≡ []
  pub room : broken ≡ false → HasRoom count fallback
  pub alone : broken ≡ true → NoneAttached seats
  pub gone : NoneAttached fallback.seats.items
  pub indexed : IsIndexOf seats index
  pub fit : AllFit (protocol scripts) seats
