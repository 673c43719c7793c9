-- What a record holds while a history goes on.
use Rattle.std.specs.Prelude.{◌≡◌, ◌⊎◌, ℕ, List, [], ◌∷◌, ◌++◌, Bool, true, false, fold, if◌then◌else◌, Option, Some, None}
use Rattle.cdp_journal.specs.Lines.{Line, Tell, Detach}
use Rattle.cdp_host_isolation.specs.Histories.{Entry, apply}
use Rattle.cdp_host_isolation.specs.Makers.{entries_of}
use Rattle.cdp_host_isolation.specs.Meanings.{Meaning, begin}
use Rattle.cdp_host_isolation.specs.Protocols.{Protocol}
use Rattle.cdp_host_turns.specs.Debuggings.{Debugging}
use Rattle.cdp_host_turns.specs.declared.answers.Told.{Told}
use Rattle.cdp_host_turns.specs.declared.answers.Told.TheVariants.{Kept, Overrun, Memory}
use Rattle.cdp_host_record.specs.Records.{are_tellable, bytes_of, ends_record, has_ended, is_some_there, line_if, lines_at, memory_line, recorded_from}
use Rattle.cdp_host_record.specs.declared.state.RecordState.{RecordState}
use Rattle.cdp_host_record.specs.declared.state.RecordState.TheVariants.{Going, Ended, Lost}

-- ---- records

-- it goes on with its history
abbrev pub is_going : RecordState → Bool
is_going Going = true
is_going Ended = false
is_going Lost = false

-- it found no memory for a line
abbrev pub is_lost : RecordState → Bool
is_lost Going = false
is_lost Ended = false
is_lost Lost = true

-- what a record holds: its bytes, and where it stands
pub record Held : Type 0 where
  pub bytes : List ℕ
  pub state : RecordState

-- what a record holds before the first entry
abbrev pub unwritten : Held
unwritten = record { bytes = []; state = Going }

-- what it holds with these bytes more, if it goes on
abbrev pub longer : List ℕ → Held → Held
longer bytes held = if is_going held.state then record held { bytes = held.bytes ++ bytes } else held

-- what it holds once it tells no more: its last line, and where it stands then, if it went on
abbrev pub closed : RecordState → Held → Held
closed state held =
    if is_going held.state then record { bytes = held.bytes ++ memory_line; state = state } else held

-- these bytes are added, or there is no memory for them and it is lost
abbrev pub Adds : List ℕ → Held → Held → Type 0
Adds bytes old new = (new ≡ longer bytes old) ⊎ (new ≡ closed Lost old)

-- these bytes are added; or a journal can't tell them, and it ends
abbrev pub AddsTold : Bool → List ℕ → Held → Held → Type 0
AddsTold true bytes old new = Adds bytes old new
AddsTold false bytes old new = new ≡ closed Ended old

-- these lines are added, or end it
abbrev pub AddsAll : List Line → Held → Held → Type 0
AddsAll lines old new = AddsTold (are_tellable lines) (bytes_of lines) old new

-- the same of a record that may not be kept
abbrev pub AddsIf : List Line → Option Held → Option Held → Type 0
AddsIf lines None new = new ≡ None
AddsIf lines (Some old) new = (held : Held) × (new ≡ Some held) × AddsAll lines old held

-- these lines are added, if there are any
abbrev pub AddsLines : List Line → Option Held → Option Held → Type 0
AddsLines [] old new = new ≡ old
AddsLines (line ∷ lines) old new = AddsIf (line ∷ lines) old new

-- a record that may not be kept ends
abbrev pub ended_if : Option Held → Option Held
ended_if None = None
ended_if (Some held) = Some (closed Ended held)

-- a run that makes no step and reports nobody adds no line; one that lists somebody ends the record
abbrev pub AddsRun : Bool → List Line → Option Held → Option Held → Type 0
AddsRun true lines old new = new ≡ ended_if old
AddsRun false lines old new = AddsLines lines old new

-- the lines of a command that was answered so, of a session that is attached or isn't
abbrev pub told_lines : Told → Bool → ℕ → List ℕ → List Line
told_lines Kept is_there s text = line_if is_there (Tell s text)
told_lines Overrun is_there s text = line_if is_there (Tell s text)
told_lines Memory is_there s text = line_if is_there (Detach s)

-- ---- records of a history

-- A record that is lost: it holds the record of the entries before one that has a line, and the last line. None of those
-- before it ends the record, nor would that one.
pub record IsCutShort {C T Q X : Type 0} (P : Protocol C T Q X) (m : Meaning C Q X) (history : List Entry)
    (bytes : List ℕ) : Type 0 where
  pub first : List Entry
  pub entry : Entry
  pub rest : List Entry
  pub whole : history ≡ first ++ entry ∷ rest
  pub none_ended : has_ended P m first ≡ false
  pub unended : ends_record P (fold (apply P) m first) entry ≡ false
  pub has_line : is_some_there (lines_at P (fold (apply P) m first) entry) ≡ true
  pub is : bytes ≡ recorded_from P m first ++ memory_line

-- a record that goes on, and one that has ended, is that of the whole history, in which no entry ends it, or one does; one
-- that is lost is cut short
abbrev pub Holds : {C T Q X : Type 0} → Protocol C T Q X → Meaning C Q X → List Entry → RecordState → List ℕ → Type 0
Holds P m history Going bytes = (bytes ≡ recorded_from P m history) × (has_ended P m history ≡ false)
Holds P m history Ended bytes = (bytes ≡ recorded_from P m history) × (has_ended P m history ≡ true)
Holds P m history Lost bytes = IsCutShort P m history bytes

-- what may be held is a record of a list of entries, of a host that means this before them, if one is kept
abbrev pub HoldsIf : {C T Q X : Type 0} → Protocol C T Q X → Meaning C Q X → List Entry → Option Held → Type 0
HoldsIf P m history None = Unit {0}
HoldsIf P m history (Some held) = Holds P m history held.state held.bytes

-- what may be held is a record of a history, if one is kept
abbrev pub RecordsIf : Debugging → List (ℕ × Entry) → Option Held → Type 0
RecordsIf d h o = HoldsIf d.protocol (begin d.program d.wait) (entries_of h) o
