-- What is done for a journal's line, to a host that stands for a history and to a sink.
use Rattle.std.specs.Prelude.{◌≡◌, ◌⊎◌, ℕ, List, [], ◌∷◌, ◌++◌, map, Bool, false, Option, Some, None}
use Rattle.std.specs.Option.{option_map_or}
use Rattle.cdp_edge.specs.Outside.{gains}
use Rattle.cdp_edge.specs.declared.sink.SinkFault.{SinkFault}
use Rattle.cdp_edge.specs.declared.sink.SinkFault.TheVariants.{Failed, Memory}
use Rattle.js_tree.specs.declared.script.Script.{Script}
use Rattle.js_semantics.specs.Run.{Run as Program}
use Rattle.cdp_host_isolation.specs.Histories.{Entry}
use Rattle.cdp_host.specs.Histories.{Meaning, whole}
use Rattle.cdp_host.specs.Hosts.{HostState, StandsFor}
use Rattle.debug_host_commands.specs.Journal.{entries}
use Rattle.debug_host_commands.specs.Output.{output_at, output_of, output_bytes, output_text}
use Rattle.debug_host_commands.specs.declared.journal.LineFault.{LineFault}
use Rattle.debug_host_commands.specs.declared.journal.LineFault.TheVariants as fault
use Rattle.debug_host_commands.specs.declared.journal.ReplayEnd.{ReplayEnd}
use Rattle.debug_host_commands.specs.declared.journal.ReplayEnd.TheVariants as ends

-- ---- one line

-- the host stands for the history with this entry
pub record StandsBehind (scripts : List Script) (input : List (List ℕ)) (wait : Bool) (history : List Entry)
    (entry : Entry) (new : HostState) : Type 0 where
  pub stands : StandsFor scripts input wait new (history ++ entry ∷ [])
  pub works : new.broken ≡ false

-- a line that has this entry was applied, and these are its lines of output; one that has none was not
abbrev pub Acts : List Script
    → List (List ℕ)
    → Bool
    → List Entry
    → Option Entry
    → Option (List (List ℕ))
    → HostState
    → Type 0
Acts scripts input wait history None lines new = lines ≡ None
Acts scripts input wait history (Some entry) lines new =
    (lines ≡ Some (map output_text (output_at scripts (whole scripts input wait history) entry)))
    × StandsBehind scripts input wait history entry new

-- a line that has this entry was applied, and its output was written
abbrev pub Plays : List Script
    → List (List ℕ)
    → Bool
    → List Entry
    → Option Entry
    → HostState
    → List ℕ
    → List ℕ
    → Type 0
Plays scripts input wait history None new before now = ⊥
Plays scripts input wait history (Some entry) new before now =
    (now ≡ gains before (output_bytes (output_at scripts (whole scripts input wait history) entry)))
    × StandsBehind scripts input wait history entry new

-- what a line's entry writes; nothing where it is refused
abbrev pub line_output : List Script → Meaning Program → Option Entry → List ℕ
line_output scripts m entry = option_map_or (λ e. output_bytes (output_at scripts m e)) entry []

-- a fault of the sink, as one of a line
abbrev pub of_sink : SinkFault → LineFault
of_sink Failed = fault.CannotWrite
of_sink Memory = fault.Memory

-- ---- all lines

-- what a journal's lines write, up to the line `memory` or the first that is refused
abbrev pub journal_output : List Script → Meaning Program → List (List ℕ) → List ℕ
journal_output scripts m lines = output_bytes (output_of scripts m (entries scripts m lines))

-- the end that the first refused line decides
abbrev pub end_of : Option ℕ → ReplayEnd
end_of None = ends.Done
end_of (Some number) = ends.Refused number

-- the ends that memory and the sink decide
abbrev pub IsCut : ReplayEnd → Type 0
IsCut end = (end ≡ ends.Memory) ⊎ (end ≡ ends.WriteFault)
