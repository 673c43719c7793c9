-- How a server ends, and why.
use Rattle.std.specs.Prelude.{Result, Ok, Err, ◌≡◌, ◌⊎◌, ℕ, List, map, Bool, true, false, Option, Some, None, string_bytes}
use Rattle.std.specs.declared.alloc.AllocError.{AllocError}
use Rattle.std.specs.declared.alloc.Global.{Global}
use Rattle.std.specs.declared.string.String.{String}
use Rattle.cdp_host_isolation.specs.Histories.{Entry}
use Rattle.cdp_host_isolation.specs.Makers.{entries_of}
use Rattle.cdp_host_isolation.specs.Stops.{AllStopExactly}
use Rattle.cdp_edge.specs.Blame.{Blames, Faults, Read, Store}
use Rattle.cdp_edge.specs.Outside.{NamedFile, Rose, Given, gains}
use Rattle.js_tree.specs.declared.script.Script.{Script}
use Rattle.js_semantics.specs.Run.{Run}
use Rattle.js_semantics.specs.Sources.{terms_of_scripts}
use Rattle.debug_host_plain_runs.specs.Runs.{HasThrown}
use Rattle.cdp_edge_printing.specs.Printing.{printed_lines}
use Rattle.cdp_edge_server.specs.Contents.{Calls, Tended, called}
use Rattle.cdp_edge_server.specs.declared.harbor.HarborFault.{HarborFault}
use Rattle.cdp_edge_server.specs.declared.harbor.HarborFault.TheVariants as harbor
use Rattle.history_lock.specs.Histories.{IsSpent}
use Rattle.cdp_host_record.specs.Records.{recorded}
use Rattle.cdp_host.specs.Debugged.{debugging}
use Rattle.cdp_host.specs.Histories.{begin, sent_alone, sent_to, view, whole}
use Rattle.cdp_host.specs.Programs.{has_thrown, is_over, plain, printed_of, start, uncaught_text}
use Rattle.cdp_host.specs.Protocols.{protocol}
use Rattle.ws_service.specs.Programs.{Output}
use Rattle.ws_service.specs.Serving.{AreKept, IsServing, ServedDoor, has_shut, seen_by}
use Rattle.ws_service.specs.declared.clients.Clients.{Clients}
use Rattle.ws_service.specs.declared.clients.Clients.TheVariants.{Plain, Devtools}
use Rattle.ws_service.specs.declared.ends.DoorsEnd.{DoorsEnd}
use Rattle.ws_service.specs.declared.ends.DoorsEnd.TheVariants as doors
use Rattle.ws_service.specs.declared.ends.Ends.{Ends}
use Rattle.ws_service.specs.declared.program.RunEnd.{RunEnd}
use Rattle.ws_service.specs.declared.program.RunEnd.TheVariants as runs
use Rattle.debug_host_commands.specs.Files.{HoldsProgram, HoldsSources, IsNamed, IsReachedIn, IsRefusedIn}
use Rattle.debug_host_commands.specs.RunCauses.{RunsToThrow}
use Rattle.debug_host_options.specs.Requests.{ServeWords}
use Rattle.debug_host_commands.specs.Status.{status_of}
use Rattle.debug_host_commands.specs.Stored.{HasStored, OrJournal, Shelved, StoreFaults, after_storing, with_stored}
use Rattle.debug_host_commands.specs.declared.storing.Storing.{Storing}
use Rattle.debug_host_commands.specs.declared.outcome.CommandEnd.{CommandEnd}
use Rattle.debug_host_commands.specs.declared.outcome.CommandEnd.TheVariants as ends

-- ---- ends

-- the end that the doors decide, or else this one
abbrev pub or_doors : Option CommandEnd → DoorsEnd → Option CommandEnd
or_doors end doors.Over = end
or_doors end doors.Failed = Some ends.NetworkFault
or_doors end doors.Spent = Some ends.TicketsSpent

-- the end that the program and the doors decide; none where the program ended by a throw, whose value is to be shown
abbrev pub outcome_of_serving : RunEnd → DoorsEnd → Option CommandEnd
outcome_of_serving runs.Broken together = Some ends.OutOfMemory
outcome_of_serving (runs.Memory unshut) together = Some ends.OutOfMemory
outcome_of_serving (runs.WriteFault unshut) together = Some ends.CannotWrite
outcome_of_serving runs.Shut together = Some ends.NetworkFault
outcome_of_serving (runs.Spent ticket) together = or_doors (Some ends.TicketsSpent) together
outcome_of_serving runs.Ended together = or_doors (Some ends.Done) together
outcome_of_serving runs.Threw together = or_doors None together

-- the end of a port whose doors weren't opened
abbrev pub unopened : HarborFault → CommandEnd
unopened harbor.Failed = ends.NetworkFault
unopened harbor.Memory = ends.OutOfMemory

-- the end of a program that threw, by the text of the value, if there was memory for that
abbrev pub thrown_end : Result (Option (String Global)) AllocError → CommandEnd
thrown_end (Ok (Some text)) = ends.Threw text
thrown_end (Ok None) = ends.ThrewUnshown
thrown_end (Err error) = ends.ThrewUnshown

-- how a program ended by a throw is shown: by the text of its value; or no memory was left for that; or no ticket was
-- left after this history for the turn that shows it
abbrev pub ShowsThrow : CommandEnd → Run → List (ℕ × Entry) → Type 0
ShowsThrow (ends.Threw text) r h = uncaught_text r ≡ Some (string_bytes text)
ShowsThrow ends.ThrewUnshown r h = Unit {0}
ShowsThrow ends.TicketsSpent r h = IsSpent h
ShowsThrow end r h = ⊥

-- a port that was served ended so, which the program and its doors decide, or how a throw that ended the program is shown
abbrev pub IsEndOf : CommandEnd → Ends → Run → List (ℕ × Entry) → Type 0
IsEndOf end ended r h =
    (outcome_of_serving ended.run ended.doors ≡ Some end)
    ⊎ ((outcome_of_serving ended.run ended.doors ≡ None) × ShowsThrow end r h)

-- the ends at which a program may have been shut: no memory was left, or its output couldn't be written, or a door failed
abbrev pub IsShutEnd : CommandEnd → Type 0
IsShutEnd ends.OutOfMemory = Unit {0}
IsShutEnd ends.CannotWrite = Unit {0}
IsShutEnd ends.NetworkFault = Unit {0}
IsShutEnd end = ⊥

-- the ends that come where no port was served: a file wasn't taken, no memory was left, or the port couldn't be opened
abbrev pub IsUnserved : CommandEnd → Type 0
IsUnserved (ends.Refused name r) = Unit {0}
IsUnserved (ends.CannotRead name) = Unit {0}
IsUnserved ends.OutOfMemory = Unit {0}
IsUnserved ends.NetworkFault = Unit {0}
IsUnserved end = ⊥

-- ---- output

-- after some steps the program is over, by no throw, and all that it has printed was written
pub record HasFinished (scripts : List Script) (input : List (List ℕ)) (before now : List ℕ) : Type 0 where
  pub steps : ℕ
  pub is : is_over (plain steps scripts input) ≡ true
  pub unthrown : has_thrown (plain steps scripts input) ≡ false
  pub whole : now ≡ gains before (printed_lines (printed_of (plain steps scripts input)))

-- the program of the scripts and the input that the files hold has
pub record ServesToEnd (given : List NamedFile) (request : ServeWords) (before now : List ℕ) : Type 0 where
  pub scripts : List Script
  pub input : List (List ℕ)
  pub holds : HoldsSources given request.sources scripts input
  pub finished : HasFinished scripts input before now

-- the program has ended, by its last script or by a throw, and all that it has printed was written
abbrev pub ServesWhole : List NamedFile → ServeWords → List ℕ → List ℕ → Type 0
ServesWhole given request before now =
    ServesToEnd given request before now ⊎ ((text : List ℕ) × RunsToThrow given request.sources text before now)

-- ---- a port that was served

-- the clients that are let in where DevTools is asked for, or isn't
abbrev pub clients_of : Bool → Clients
clients_of true = Devtools
clients_of false = Plain

-- what a harbor tells of the doors of ports
pub record Harbored : Type 0 where
  pub faults : ℕ
  pub opens : Calls (ℕ × ℕ)
  pub kept : Option (List Tended)

-- A port was served to these clients for a program of these scripts and this input, over one history, and that ended so. In the history
-- the program stopped at exactly the steps that the rules of its sessions or the start rule name, and each session was
-- sent exactly what a host with no other session sends it, given what it sees of the history.
pub record ServesPort (scripts : List Script) (input : List (List ℕ)) (wait : Bool) (sessions : ℕ) (clients : Clients)
    (moment : Option ℕ) (old new : Output) (before after : Option (List Tended)) (end : CommandEnd) : Type 0 where
  pub history : List (ℕ × Entry)
  pub doors : List ServedDoor
  pub ended : Ends
  pub serving : IsServing (debugging scripts input wait) sessions moment old new ended history doors
  pub is_end : IsEndOf end ended (whole scripts input wait (entries_of history)).program history
  pub shut : has_shut (entries_of history) ≡ true → IsShutEnd end
  pub kept : AreKept (seen_by clients) before after (map (λ (door : ServedDoor). door.door) doors)
  pub exactly : AllStopExactly (protocol scripts) (start scripts input) 0 (begin scripts input wait) (entries_of history)
  pub alone : (s : ℕ) → sent_to scripts input wait s (entries_of history)
      ≡ sent_alone scripts input wait s (view scripts input wait s (entries_of history))

-- A port was served so, with a journal under this name, if there is one. It ended as the program and its doors decide,
-- or by what became of the journal of its history. It ended for want of a ticket only where that history leaves none.
pub record ServesStored (scripts : List Script) (input : List (List ℕ)) (wait : Bool) (sessions : ℕ) (clients : Clients)
    (journal : Option (List ℕ)) (moment : Option ℕ) (old new : Output) (before after : Option (List Tended))
    (was now : Shelved) (end : CommandEnd) : Type 0 where
  pub served : CommandEnd
  pub port : ServesPort scripts input wait sessions clients moment old new before after served
  pub storing : Storing
  pub stored : HasStored storing (debugging scripts input wait) port.history journal was now
  pub is : end ≡ after_storing served storing
  pub spent : end ≡ ends.TicketsSpent → IsSpent port.history

-- a port was served for the scripts and the input that the files hold, and that ended so
pub record Serves (given : List NamedFile) (request : ServeWords) (moment : Option ℕ) (old new : Output)
    (before after : Option (List Tended)) (was now : Shelved) (end : CommandEnd) : Type 0 where
  pub scripts : List Script
  pub input : List (List ℕ)
  pub holds : HoldsSources given request.sources scripts input
  pub port : ServesStored scripts input request.wait request.sessions (clients_of request.devtools) request.journal moment
      old new before after was now end

-- no port was served, and nothing was written or stored
abbrev pub ServesNothing : CommandEnd → Output → Output → Shelved → Shelved → Type 0
ServesNothing end old new was now = IsUnserved end × (new.content ≡ old.content) × (now.files ≡ was.files)

-- no port was served, and nothing was written or stored; or one was, and that ended so
abbrev pub MayServe : List NamedFile → ServeWords → Option ℕ → Output → Output → Option (List Tended)
    → Option (List Tended) → Shelved → Shelved → CommandEnd → Type 0
MayServe given request moment old new before after was now end =
    ServesNothing end old new was now ⊎ Serves given request moment old new before after was now end

-- A port was served over one history, which ended with this status as the program and its doors decide. Under the name
-- of the journal that is asked for, if one is, the record of that history was stored, byte for byte.
pub record Journals (status : ℕ) (given : List NamedFile) (request : ServeWords) (moment : Option ℕ) (old new : Output)
    (before after : Option (List Tended)) (was now : Shelved) : Type 0 where
  pub scripts : List Script
  pub input : List (List ℕ)
  pub holds : HoldsSources given request.sources scripts input
  pub served : CommandEnd
  pub is : status ≡ status_of served
  pub port : ServesPort scripts input request.wait request.sessions (clients_of request.devtools) moment old new before
      after served
  pub stored : (name : List ℕ) → request.journal ≡ Some name
      → now ≡ with_stored name (recorded (debugging scripts input request.wait) port.history) was

-- ---- causes

-- the doors of a port were opened by one call
abbrev pub IsOpened : ℕ → ℕ → Harbored → Harbored → Type 0
IsOpened port sessions before after = after.opens ≡ called (port, sessions) before.opens

-- Why serving a program ended so. Its output is all written where it ended, and a first part of it always.
abbrev pub BecauseServed : CommandEnd → List Script → List (List ℕ) → ℕ → ℕ → Output → Output → Harbored → Harbored
    → Type 0
BecauseServed ends.Done scripts input port sessions old new before after =
    (new.faults ≡ old.faults)
    × IsOpened port sessions before after
    × HasFinished scripts input old.content new.content
BecauseServed (ends.Threw text) scripts input port sessions old new before after =
    (new.faults ≡ old.faults)
    × IsOpened port sessions before after
    × HasThrown (terms_of_scripts scripts) input (string_bytes text) old.content new.content
BecauseServed ends.ThrewUnshown scripts input port sessions old new before after =
    (new.faults ≡ old.faults)
    × IsOpened port sessions before after
    × ((text : List ℕ) × HasThrown (terms_of_scripts scripts) input text old.content new.content)
BecauseServed ends.OutOfMemory scripts input port sessions old new before after = new.faults ≡ old.faults
BecauseServed ends.CannotWrite scripts input port sessions old new before after =
    Rose old.faults new.faults × IsOpened port sessions before after
BecauseServed ends.NetworkFault scripts input port sessions old new before after =
    (new.faults ≡ old.faults) × Rose before.faults after.faults
BecauseServed ends.TicketsSpent scripts input port sessions old new before after =
    (new.faults ≡ old.faults) × IsOpened port sessions before after
BecauseServed ends.Usage scripts input port sessions old new before after = ⊥
BecauseServed (ends.Refused name r) scripts input port sessions old new before after = ⊥
BecauseServed (ends.CannotRead name) scripts input port sessions old new before after = ⊥
BecauseServed (ends.CannotStore name) scripts input port sessions old new before after = ⊥
BecauseServed (ends.LineRefused n) scripts input port sessions old new before after = ⊥
BecauseServed (ends.PeerClosed replies) scripts input port sessions old new before after = ⊥

-- Why serving a program ended so, with a journal under this name, if there is one: the program and its doors ended so,
-- and what became of the journal comes after that, or before. The first two counts are those of the shelf.
pub record BecauseStored (end : CommandEnd) (journal : Option (List ℕ)) (faults now_faults : Faults)
    (scripts : List Script) (input : List (List ℕ)) (port sessions : ℕ) (old new : Output) (before after : Harbored)
    : Type 0 where
  pub served : CommandEnd
  pub because : BecauseServed served scripts input port sessions old new before after
  pub storing : Storing
  pub told : StoreFaults storing journal faults now_faults
  pub is : end ≡ after_storing served storing

-- why a server ended so: the files say so, a count of faults rose, memory was wanting, or no ticket was left. The counts
-- are those of the shelf
abbrev pub BecauseServe : CommandEnd → ServeWords → (List NamedFile → Type 0) → Faults → Faults → Output → Output → Harbored
    → Harbored → Type 0
BecauseServe ends.Done request Hands before after old new was now =
    (after ≡ before)
    × (new.faults ≡ old.faults)
    × IsOpened request.port request.sessions was now
    × Given Hands (λ given. ServesToEnd given request old.content new.content)
BecauseServe (ends.Threw text) request Hands before after old new was now =
    (after ≡ before)
    × (new.faults ≡ old.faults)
    × IsOpened request.port request.sessions was now
    × Given Hands (λ given. RunsToThrow given request.sources (string_bytes text) old.content new.content)
BecauseServe ends.ThrewUnshown request Hands before after old new was now =
    (after ≡ before)
    × (new.faults ≡ old.faults)
    × IsOpened request.port request.sessions was now
    × ((text : List ℕ) × Given Hands (λ given. RunsToThrow given request.sources text old.content new.content))
BecauseServe ends.OutOfMemory request Hands before after old new was now =
    OrJournal request.journal (after ≡ before) (λ name. Blames (Store name) before after)
    × OrJournal request.journal (new.faults ≡ old.faults) (λ name. Rose old.faults new.faults)
BecauseServe ends.CannotWrite request Hands before after old new was now =
    OrJournal request.journal (after ≡ before) (λ name. Blames (Store name) before after)
    × Rose old.faults new.faults
    × IsOpened request.port request.sessions was now
    × Given Hands (λ given. HoldsProgram given request.sources)
BecauseServe ends.NetworkFault request Hands before after old new was now =
    OrJournal request.journal (after ≡ before) (λ name. Blames (Store name) before after)
    × (new.faults ≡ old.faults)
    × Rose was.faults now.faults
    × Given Hands (λ given. HoldsProgram given request.sources)
BecauseServe ends.TicketsSpent request Hands before after old new was now =
    OrJournal request.journal (after ≡ before) (λ name. Blames (Store name) before after)
    × (new.faults ≡ old.faults)
    × IsOpened request.port request.sessions was now
    × Given Hands (λ given. HoldsProgram given request.sources)
BecauseServe (ends.CannotStore name) request Hands before after old new was now =
    Blames (Store name.now) before after
    × (request.journal ≡ Some name.now)
    × (new.faults ≡ old.faults)
    × IsOpened request.port request.sessions was now
    × Given Hands (λ given. ServesWhole given request old.content new.content)
BecauseServe (ends.Refused name r) request Hands before after old new was now =
    (after ≡ before) × (new ≡ old) × Given Hands (λ given. IsRefusedIn given request.sources name.now r)
BecauseServe (ends.CannotRead name) request Hands before after old new was now =
    Blames (Read name.now) before after
    × (new ≡ old)
    × IsNamed request.sources name.now
    × Given Hands (λ given. IsReachedIn given request.sources name.now)
BecauseServe ends.Usage request Hands before after old new was now = ⊥
BecauseServe (ends.LineRefused n) request Hands before after old new was now = ⊥
BecauseServe (ends.PeerClosed replies) request Hands before after old new was now = ⊥
