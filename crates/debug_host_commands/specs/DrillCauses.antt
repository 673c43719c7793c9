-- How a drill ends, and why.
use Rattle.std.specs.Prelude.{◌≡◌, ◌⊎◌, ℕ, List, [], ◌∷◌, false, codes, Option, Some, None}
use Rattle.cdp_edge.specs.Outside.{Rose, gains, GainsPrefix, GainsLess}
use Rattle.cdp_journal.specs.Drills.{drill_journal, drill_source}
use Rattle.cdp_journal.specs.Summaries.{summary}
use Rattle.js_tree.specs.declared.script.Script.{Script}
use Rattle.debug_host_script_files.specs.Refusals.{IsRefused}
use Rattle.debug_host_script_files.specs.Scripts.{IsScriptOf}
use Rattle.debug_host_commands.specs.Replays.{IsReplay}
use Rattle.debug_host_commands.specs.declared.outcome.CommandEnd.{CommandEnd}
use Rattle.debug_host_commands.specs.declared.outcome.CommandEnd.TheVariants as ends

-- the name of a drill's script
abbrev pub script_name : List ℕ
script_name = codes "drill.js"

-- this is the script of the drill of this number
abbrev pub IsDrillScript : ℕ → Script → Type 0
IsDrillScript n script = IsScriptOf [] 0 script_name (drill_source n) script

-- this is the output of the replay of a drill's journal over its script, up to the line that is refused, if one is
abbrev pub IsDrilled : ℕ → Script → Option ℕ → List ℕ → Type 0
IsDrilled n script line output = IsReplay (script ∷ []) [] false (drill_journal n) line output

-- ---- of a sink that had this content before and after

-- a summary of that output is written
pub record DrillsWhole (n : ℕ) (before now : List ℕ) : Type 0 where
  pub script : Script
  pub is : IsDrillScript n script
  pub output : List ℕ
  pub replay : IsDrilled n script None output
  pub whole : now ≡ gains before (summary output)

-- a first part of the summary of a drill is written
pub record DrillsInPart (n : ℕ) (before now : List ℕ) : Type 0 where
  pub script : Script
  pub is : IsDrillScript n script
  pub output : List ℕ
  pub replay : IsDrilled n script None output
  pub part : GainsPrefix before now (summary output)

-- a first part of the summary of a drill is written, and not all of it
pub record DrillsShort (n : ℕ) (before now : List ℕ) : Type 0 where
  pub script : Script
  pub is : IsDrillScript n script
  pub output : List ℕ
  pub replay : IsDrilled n script None output
  pub less : GainsLess before now (summary output)

-- the line of this number of its journal is refused
pub record DrillRefuses (n line : ℕ) : Type 0 where
  pub script : Script
  pub is : IsDrillScript n script
  pub output : List ℕ
  pub replay : IsDrilled n script (Some line) output

-- ---- causes

-- why a drill ended so before its journal was replayed
abbrev pub BecauseScript : CommandEnd → ℕ → Type 0
BecauseScript (ends.Refused name r) n = (name.now ≡ script_name) × IsRefused [] (drill_source n) r
BecauseScript ends.OutOfMemory n = Unit {0}
BecauseScript end n = ⊥

-- why it ended so while its journal was replayed
abbrev pub BecauseJournalOf : CommandEnd → ℕ → Script → Type 0
BecauseJournalOf (ends.LineRefused line) n script = (output : List ℕ) × IsDrilled n script (Some line) output
BecauseJournalOf ends.OutOfMemory n script = Unit {0}
BecauseJournalOf end n script = ⊥

-- why a drill ended so: its script or its journal is refused, the count of faults of the output rose, or memory was
-- wanting
abbrev pub BecauseDrill : CommandEnd → ℕ → ℕ → ℕ → List ℕ → List ℕ → Type 0
BecauseDrill ends.Done n was now old new = (now ≡ was) × DrillsWhole n old new
BecauseDrill ends.OutOfMemory n was now old new = (now ≡ was) × ((new ≡ old) ⊎ DrillsInPart n old new)
BecauseDrill ends.CannotWrite n was now old new = Rose was now × DrillsShort n old new
BecauseDrill (ends.Refused name r) n was now old new =
    (now ≡ was) × (new ≡ old) × (name.now ≡ script_name) × IsRefused [] (drill_source n) r
BecauseDrill (ends.LineRefused line) n was now old new = (now ≡ was) × (new ≡ old) × DrillRefuses n line
BecauseDrill ends.Usage n was now old new = ⊥
BecauseDrill ends.NetworkFault n was now old new = ⊥
BecauseDrill ends.ThrewUnshown n was now old new = ⊥
BecauseDrill ends.TicketsSpent n was now old new = ⊥
BecauseDrill (ends.PeerClosed replies) n was now old new = ⊥
BecauseDrill (ends.CannotStore name) n was now old new = ⊥
BecauseDrill (ends.CannotRead name) n was now old new = ⊥
BecauseDrill (ends.Threw text) n was now old new = ⊥
