-- What a journal does to a host.
use Rattle.std.specs.Prelude.{ℕ, ◌+◌, List, [], ◌∷◌, Bool, if◌then◌else◌, Option, Some, None}
use Rattle.std.specs.Option.{option_and_then, option_map_or}
use Rattle.cdp_host_isolation.specs.Histories.{Entry, Attach as Attached, Tell as Told, Take as Taken, Detach as Detached, Ran, Shut as ShutDown}
use Rattle.cdp_host_isolation.specs.Meanings.{longest}
use Rattle.cdp_host_isolation.specs.Seats.{is_attached, seat_of}
use Rattle.js_tree.specs.declared.script.Script.{Script}
use Rattle.js_semantics.specs.Run.{Run as Program}
use Rattle.cdp_host.specs.Histories.{Meaning, apply}
use Rattle.cdp_host.specs.Protocols.{protocol}
use Rattle.cdp_journal.specs.Lines.{Line, Attach, Tell, Take, Detach, Run, Shut, is_memory, line_of}

-- the session of this number is attached
abbrev pub is_there : Meaning Program → ℕ → Bool
is_there m s = is_attached (seat_of s m.seats)

-- the entry of a line; None where it names a session that isn't attached. A run is the longest, and loses nobody for
-- want of memory.
abbrev pub entry_at : List Script → Meaning Program → Line → Option Entry
entry_at scripts m Attach = Some Attached
entry_at scripts m (Tell s text) = if is_there m s then Some (Told s text) else None
entry_at scripts m (Take s) = if is_there m s then Some (Taken s) else None
entry_at scripts m (Detach s) = if is_there m s then Some (Detached s) else None
entry_at scripts m (Run most moment) = Some (Ran (longest (protocol scripts) moment most m) moment [])
entry_at scripts m Shut = Some ShutDown

-- the entry of a line's bytes; None where the line is refused, and at the line `memory`
abbrev pub entry_of : List Script → Meaning Program → List ℕ → Option Entry
entry_of scripts m bytes = option_and_then (entry_at scripts m) (line_of bytes)

-- the history of a journal's lines, up to the line `memory` or the first that is refused
abbrev pub entries : List Script → Meaning Program → List (List ℕ) → List Entry
entries scripts m [] = []
entries scripts m (line ∷ lines) =
    option_map_or (λ entry. entry ∷ entries scripts (apply scripts m entry) lines) (entry_of scripts m line) []

-- the number of the first line behind the line `memory`, if there is one: it is refused, whatever it is
abbrev pub behind_memory : ℕ → List (List ℕ) → Option ℕ
behind_memory number [] = None
behind_memory number (line ∷ lines) = Some number

-- the number of the first line that is refused, where this one has the first number
abbrev pub refused : List Script → ℕ → Meaning Program → List (List ℕ) → Option ℕ
refused scripts number m [] = None
refused scripts number m (line ∷ lines) =
    if is_memory line then behind_memory (number + 1) lines
    else option_map_or (λ entry. refused scripts (number + 1) (apply scripts m entry) lines) (entry_of scripts m line)
    (Some number)
