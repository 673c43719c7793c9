-- How a run ends, and why.
use Rattle.std.specs.Prelude.{◌≡◌, ◌⊎◌, ℕ, List, [], Option, Some, string_bytes}
use Rattle.std.specs.Borrow.{Bor}
use Rattle.cdp_edge.specs.Outside.{Rose, NamedFile, Given}
use Rattle.cdp_edge.specs.Blame.{Faults, Blames, Read}
use Rattle.js_tree.specs.declared.script.Script.{Script}
use Rattle.js_semantics.specs.Sources.{terms_of_scripts}
use Rattle.debug_host_script_files.specs.declared.fault.FileFault.{FileFault}
use Rattle.debug_host_script_files.specs.declared.fault.FileFault.TheVariants as faults
use Rattle.debug_host_script_files.specs.Input.{HoldsNoText}
use Rattle.debug_host_plain_runs.specs.Runs.{HasEnded, HasThrown, IsCutShort, IsFirstPart}
use Rattle.debug_host_plain_runs.specs.declared.end.PlainRunEnd.{PlainRunEnd}
use Rattle.debug_host_plain_runs.specs.declared.end.PlainRunEnd.TheVariants as runs
use Rattle.debug_host_commands.specs.Files.{HoldsSources, IsNamed, IsReachedIn, IsRefusedIn}
use Rattle.debug_host_options.specs.Requests.{Sources}
use Rattle.debug_host_commands.specs.declared.outcome.CommandEnd.{CommandEnd}
use Rattle.debug_host_commands.specs.declared.outcome.CommandEnd.TheVariants as ends

-- ---- the run, of a sink that had this content before and after

-- the run of the scripts and the input in the files that were handed in has ended by its last script, and its output is
-- written
pub record RunsToEnd (given : List NamedFile) (sources : Sources) (before now : List ℕ) : Type 0 where
  pub scripts : List Script
  pub input : List (List ℕ)
  pub holds : HoldsSources given sources scripts input
  pub ended : HasEnded (terms_of_scripts scripts) input before now

-- it has ended by a throw of a value that is shown so
pub record RunsToThrow (given : List NamedFile) (sources : Sources) (text : List ℕ) (before now : List ℕ)
    : Type 0 where
  pub scripts : List Script
  pub input : List (List ℕ)
  pub holds : HoldsSources given sources scripts input
  pub thrown : HasThrown (terms_of_scripts scripts) input text before now

-- not all of its output is written
pub record RunsShort (given : List NamedFile) (sources : Sources) (before now : List ℕ) : Type 0 where
  pub scripts : List Script
  pub input : List (List ℕ)
  pub holds : HoldsSources given sources scripts input
  pub short : IsCutShort (terms_of_scripts scripts) input before now

-- a first part of its output is written, however many more steps are made
pub record RunsInPart (given : List NamedFile) (sources : Sources) (before now : List ℕ) : Type 0 where
  pub scripts : List Script
  pub input : List (List ℕ)
  pub holds : HoldsSources given sources scripts input
  pub part : IsFirstPart (terms_of_scripts scripts) input before now

-- ---- causes

-- the end that the fault of a file is
abbrev pub outcome_of : Bor (List ℕ) → FileFault → CommandEnd
outcome_of name faults.CannotRead = ends.CannotRead name
outcome_of name (faults.Refused r) = ends.Refused name r
outcome_of name faults.Memory = ends.OutOfMemory

-- the end that the end of a run of scripts is
abbrev pub outcome_of_run : PlainRunEnd → CommandEnd
outcome_of_run runs.Ended = ends.Done
outcome_of_run (runs.Threw text) = ends.Threw text
outcome_of_run runs.CannotWrite = ends.CannotWrite
outcome_of_run runs.Memory = ends.OutOfMemory

-- why a command ended so while its input was read; the counts are those of the shelf, and `Hands` says what it handed
-- in
abbrev pub BecauseInput : CommandEnd → Option (List ℕ) → (List NamedFile → Type 0) → Faults → Faults → Type 0
BecauseInput (ends.Refused name r) input Hands before after =
    (after ≡ before) × (input ≡ Some name.now) × Given Hands (λ given. HoldsNoText given name.now r)
BecauseInput (ends.CannotRead name) input Hands before after =
    Blames (Read name.now) before after × (input ≡ Some name.now) × Hands []
BecauseInput ends.OutOfMemory input Hands before after = (after ≡ before) × Given Hands (λ given. Unit {0})
BecauseInput end input Hands before after = ⊥

-- why it ended so while its input and its scripts were read
abbrev pub BecauseSources : CommandEnd → Sources → (List NamedFile → Type 0) → Faults → Faults → Type 0
BecauseSources (ends.Refused name r) sources Hands before after =
    (after ≡ before) × Given Hands (λ given. IsRefusedIn given sources name.now r)
BecauseSources (ends.CannotRead name) sources Hands before after =
    Blames (Read name.now) before after
    × IsNamed sources name.now
    × Given Hands (λ given. IsReachedIn given sources name.now)
BecauseSources ends.OutOfMemory sources Hands before after = (after ≡ before) × Given Hands (λ given. Unit {0})
BecauseSources end sources Hands before after = ⊥

-- why a run ended so: the files that were handed in say so, a count of faults rose, or memory was wanting. The counts
-- are those of the shelf and of the output, the contents those of the output
abbrev pub BecauseRun : CommandEnd
    → Sources
    → (List NamedFile → Type 0)
    → Faults
    → Faults
    → ℕ
    → ℕ
    → List ℕ
    → List ℕ
    → Type 0
BecauseRun ends.Done sources Hands before after was now old new =
    (after ≡ before) × (now ≡ was) × Given Hands (λ given. RunsToEnd given sources old new)
BecauseRun (ends.Threw text) sources Hands before after was now old new =
    (after ≡ before) × (now ≡ was) × Given Hands (λ given. RunsToThrow given sources (string_bytes text) old new)
BecauseRun ends.OutOfMemory sources Hands before after was now old new =
    (after ≡ before) × (now ≡ was) × Given Hands (λ given. (new ≡ old) ⊎ RunsInPart given sources old new)
BecauseRun (ends.Refused name r) sources Hands before after was now old new =
    (after ≡ before) × (now ≡ was) × Given Hands (λ given. IsRefusedIn given sources name.now r)
BecauseRun (ends.CannotStore name) sources Hands before after was now old new = ⊥
BecauseRun (ends.CannotRead name) sources Hands before after was now old new =
    Blames (Read name.now) before after
    × (now ≡ was)
    × IsNamed sources name.now
    × Given Hands (λ given. IsReachedIn given sources name.now)
BecauseRun ends.CannotWrite sources Hands before after was now old new =
    (after ≡ before) × Rose was now × Given Hands (λ given. RunsShort given sources old new)
BecauseRun ends.Usage sources Hands before after was now old new = ⊥
BecauseRun ends.NetworkFault sources Hands before after was now old new = ⊥
BecauseRun ends.ThrewUnshown sources Hands before after was now old new = ⊥
BecauseRun ends.TicketsSpent sources Hands before after was now old new = ⊥
BecauseRun (ends.PeerClosed replies) sources Hands before after was now old new = ⊥
BecauseRun (ends.LineRefused n) sources Hands before after was now old new = ⊥

-- the ends that come before a step is made
abbrev pub IsUnbegun : CommandEnd → Type 0
IsUnbegun (ends.Refused name r) = Unit {0}
IsUnbegun (ends.CannotRead name) = Unit {0}
IsUnbegun end = ⊥
