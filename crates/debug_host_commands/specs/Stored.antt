-- The journal of a server, as it is stored.
use Rattle.std.specs.Prelude.{◌≡◌, ◌⊎◌, ℕ, List, Bool, true, false, Option, Some, None, if◌then◌else◌}
use Rattle.std.specs.Borrow.{Bor}
use Rattle.cdp_edge.specs.Blame.{Blames, Faults, Store}
use Rattle.cdp_edge.specs.Outside.{NamedFile, with_file}
use Rattle.cdp_host_isolation.specs.Histories.{Entry}
use Rattle.cdp_host_isolation.specs.Makers.{entries_of}
use Rattle.cdp_host_isolation.specs.Meanings.{begin}
use Rattle.history_lock.specs.Histories.{IsSpent}
use Rattle.cdp_host_turns.specs.Debuggings.{Debugging}
use Rattle.cdp_host_record.specs.Records.{recorded}
use Rattle.cdp_host_record.specs.Recordings.{Held, IsCutShort, is_lost}
use Rattle.debug_host_options.specs.Requests.{Request, Serve}
use Rattle.debug_host_commands.specs.declared.outcome.CommandEnd.{CommandEnd}
use Rattle.debug_host_commands.specs.declared.outcome.CommandEnd.TheVariants as ends
use Rattle.debug_host_commands.specs.declared.storing.Storing.{Storing}
use Rattle.debug_host_commands.specs.declared.storing.Storing.TheVariants as storings

-- ---- where a journal is asked for

-- the name under which the words ask for a journal, if they do
abbrev pub journal_asked : Option Request → Option (List ℕ)
journal_asked (Some (Serve request)) = request.journal
journal_asked request = None

-- without a journal the first holds; where one is asked for under a name, the first, or the second of that name
abbrev pub OrJournal : Option (List ℕ) → Type 0 → (List ℕ → Type 0) → Type 0
OrJournal None P Q = P
OrJournal (Some name) P Q = P ⊎ Q name

-- the statuses that come before that of a journal that couldn't be stored
abbrev pub ComesFirst : ℕ → Type 0
ComesFirst status = (status ≡ 1) ⊎ (status ≡ 5) ⊎ (status ≡ 7) ⊎ (status ≡ 10)

-- ---- one store

-- what a shelf tells of its stores: the files that it stored, and its faults
pub record Shelved : Type 0 where
  pub files : List NamedFile
  pub faults : Faults

-- it stored these bytes under this name besides
abbrev pub with_stored : List ℕ → List ℕ → Shelved → Shelved
with_stored name bytes old = record old { files = with_file old.files name bytes }

-- a store under this name failed, and stored nothing
pub record FailsToStore (name : List ℕ) (old new : Shelved) : Type 0 where
  pub files : new.files ≡ old.files
  pub faults : Blames (Store name) old.faults new.faults

-- what the store of a record's lines under this name came to
abbrev pub StoresLines : Storing → Bor (List ℕ) → Held → Shelved → Shelved → Type 0
StoresLines storings.Done name held old new =
    (is_lost held.state ≡ false) × (new ≡ with_stored name.now held.bytes old)
StoresLines storings.Memory name held old new =
    (new ≡ old) ⊎ ((is_lost held.state ≡ true) × (new ≡ with_stored name.now held.bytes old))
StoresLines (storings.Failed named) name held old new = (named ≡ name) × FailsToStore name.now old new
StoresLines storings.Spent name held old new = ⊥

-- ---- the journal of a history

-- What became of the journal of a history, if one is asked for under a name. It was stored: the record of that history,
-- byte for byte. Or memory was wanting: to store it, and nothing was stored; or before that for one of its lines, and a
-- record was stored that is cut short there. Or its store failed. Or no ticket was left after that history for the turn
-- that stores it.
abbrev pub HasStored : Storing → Debugging → List (ℕ × Entry) → Option (List ℕ) → Shelved → Shelved → Type 0
HasStored storing d h None old new = (storing ≡ storings.Done) × (new ≡ old)
HasStored storings.Done d h (Some name) old new = new ≡ with_stored name (recorded d h) old
HasStored storings.Memory d h (Some name) old new =
    (new ≡ old)
    ⊎ ((bytes : List ℕ)
    × (new ≡ with_stored name bytes old)
    × IsCutShort d.protocol (begin d.program d.wait) (entries_of h) bytes)
HasStored (storings.Failed named) d h (Some name) old new = (named.now ≡ name) × FailsToStore name old new
HasStored storings.Spent d h (Some name) old new = (new ≡ old) × IsSpent h

-- the faults of a shelf before and after that: they are as they were, unless the store failed
abbrev pub StoreFaults : Storing → Option (List ℕ) → Faults → Faults → Type 0
StoreFaults storing None before after = (storing ≡ storings.Done) × (after ≡ before)
StoreFaults (storings.Failed named) (Some name) before after =
    (named.now ≡ name) × Blames (Store name) before after
StoreFaults storing (Some name) before after = after ≡ before

-- what becomes of a journal where no turn is left, if one is asked for under a name
abbrev pub spent_if : Option (List ℕ) → Storing
spent_if None = storings.Done
spent_if (Some name) = storings.Spent

-- ---- how a server ends then

-- its program ended, and nothing failed
abbrev pub is_program_end : CommandEnd → Bool
is_program_end ends.Done = true
is_program_end (ends.Threw text) = true
is_program_end ends.ThrewUnshown = true
is_program_end end = false

-- another end comes before that of the program
abbrev pub unless_ended : CommandEnd → CommandEnd → CommandEnd
unless_ended end other = if is_program_end end then other else end

-- The end of a server that ended so, of whose journal this became. In the order of the statuses want of memory comes
-- first, and a store that failed just before what the program came to.
abbrev pub after_storing : CommandEnd → Storing → CommandEnd
after_storing end storings.Done = end
after_storing end storings.Memory = ends.OutOfMemory
after_storing end (storings.Failed name) = unless_ended end (ends.CannotStore name)
after_storing end storings.Spent = unless_ended end ends.TicketsSpent
