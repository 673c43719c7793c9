-- The record of a history: the journal that tells it.
use Rattle.std.specs.Prelude.{ℕ, List, [], ◌∷◌, ◌++◌, map, Bool, true, false, ◌==◌, ◌&&◌, ◌||◌, not, if◌then◌else◌}
use Rattle.cdp_text.specs.Lines.{ended}
use Rattle.cdp_journal.specs.Lines as journal
use Rattle.cdp_journal.specs.Lines.{Line, is_tellable, line_text, memory_text}
use Rattle.cdp_host_isolation.specs.Histories.{Entry, Attach, Tell, Take, Detach, Ran, Shut, apply, waiting}
use Rattle.cdp_host_isolation.specs.Makers.{entries_of}
use Rattle.cdp_host_isolation.specs.Meanings.{Meaning, begin}
use Rattle.cdp_host_isolation.specs.Protocols.{Protocol}
use Rattle.cdp_host_isolation.specs.Seats.{is_attached, seat_of, some, waits_for_report}
use Rattle.cdp_host_turns.specs.Debuggings.{Debugging}

-- ---- one entry

-- a line, if it is told
abbrev pub line_if : Bool → Line → List Line
line_if told line = if told then line ∷ [] else []

-- there is something
abbrev pub is_some_there : {A : Type 0} → List A → Bool
is_some_there [] = false
is_some_there (x ∷ xs) = true

-- the line of an entry, of a host that means this, if it has one: an entry of a session that isn't attached, a taking
-- of no text, and a run that makes no step and reports nobody have none
abbrev pub lines_at : {C T Q X : Type 0} → Protocol C T Q X → Meaning C Q X → Entry → List Line
lines_at P m Attach = journal.Attach ∷ []
lines_at P m (Tell s text) = line_if (is_attached (seat_of s m.seats)) (journal.Tell s text)
lines_at P m (Take s) = line_if (is_some_there (waiting P (seat_of s m.seats))) (journal.Take s)
lines_at P m (Detach s) = line_if (is_attached (seat_of s m.seats)) (journal.Detach s)
lines_at P m (Ran n moment gone) =
    line_if (not (n == 0) || some waits_for_report m.seats) (journal.Run n moment)
lines_at P m Shut = journal.Shut ∷ []

-- it is a run that lists a session which was lost for want of memory
abbrev pub lists : Entry → Bool
lists Attach = false
lists (Tell s text) = false
lists (Take s) = false
lists (Detach s) = false
lists (Ran n moment gone) = is_some_there gone
lists Shut = false

-- a journal can tell each of these lines
abbrev pub are_tellable : List Line → Bool
are_tellable [] = true
are_tellable (line ∷ lines) = is_tellable line && are_tellable lines

-- it ends the record of a host that means this: it is such a run, or has a line that no journal can tell, since its text
-- is too long or a number too great
abbrev pub ends_record : {C T Q X : Type 0} → Protocol C T Q X → Meaning C Q X → Entry → Bool
ends_record P m entry = lists entry || not (are_tellable (lines_at P m entry))

-- ---- entries one after another

-- one of them ends the record
abbrev pub has_ended : {C T Q X : Type 0} → Protocol C T Q X → Meaning C Q X → List Entry → Bool
has_ended P m [] = false
has_ended P m (entry ∷ history) = ends_record P m entry || has_ended P (apply P m entry) history

-- the lines of a history, of a host that means this before it, up to the first entry that ends the record
abbrev pub lines_from : {C T Q X : Type 0} → Protocol C T Q X → Meaning C Q X → List Entry → List Line
lines_from P m [] = []
lines_from P m (entry ∷ history) =
    if ends_record P m entry then [] else lines_at P m entry ++ lines_from P (apply P m entry) history

-- the bytes of lines, each ended by LF
abbrev pub bytes_of : List Line → List ℕ
bytes_of lines = ended (map line_text lines)

-- the last line of a record that tells no more
abbrev pub memory_line : List ℕ
memory_line = ended (memory_text ∷ [])

-- the record of a history, of a host that means this before it: the bytes of its lines, and the last line in place of
-- the first entry that ends it
abbrev pub recorded_from : {C T Q X : Type 0} → Protocol C T Q X → Meaning C Q X → List Entry → List ℕ
recorded_from P m history = bytes_of (lines_from P m history) ++ (if has_ended P m history then memory_line else [])

-- the record of a history with makers
abbrev pub recorded : Debugging → List (ℕ × Entry) → List ℕ
recorded d h = recorded_from d.protocol (begin d.program d.wait) (entries_of h)
