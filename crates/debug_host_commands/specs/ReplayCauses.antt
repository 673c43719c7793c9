-- How a replay ends, and why.
use Rattle.std.specs.Prelude.{◌≡◌, ◌⊎◌, ℕ, List, Option, Some, None}
use Rattle.cdp_edge.specs.Outside.{Rose, NamedFile, Given}
use Rattle.cdp_edge.specs.Blame.{Faults, Blames, Read}
use Rattle.js_tree.specs.declared.script.Script.{Script}
use Rattle.debug_host_commands.specs.Files.{HoldsReplay, IsNamedBy, IsReachedBy, IsRefusedBehind}
use Rattle.debug_host_commands.specs.Replays.{WritesLess, WritesPart, WritesReplay}
use Rattle.debug_host_options.specs.Requests.{ReplayWords}
use Rattle.debug_host_commands.specs.declared.outcome.CommandEnd.{CommandEnd}
use Rattle.debug_host_commands.specs.declared.outcome.CommandEnd.TheVariants as ends
use Rattle.debug_host_commands.specs.declared.journal.ReplayEnd.{ReplayEnd}
use Rattle.debug_host_commands.specs.declared.journal.ReplayEnd.TheVariants as plays

-- ---- of a sink that had this content before and after

-- the files that were handed in hold the replay, up to the line that is refused, if one is, and all of its output is
-- written
pub record ReplaysWhole (given : List NamedFile) (request : ReplayWords) (line : Option ℕ) (before now : List ℕ)
    : Type 0 where
  pub journal : List ℕ
  pub scripts : List Script
  pub input : List (List ℕ)
  pub holds : HoldsReplay given request journal scripts input
  pub writes : WritesReplay scripts input request.wait journal line before now

-- a first part of a replay's output is written
pub record ReplaysInPart (given : List NamedFile) (request : ReplayWords) (before now : List ℕ) : Type 0 where
  pub journal : List ℕ
  pub scripts : List Script
  pub input : List (List ℕ)
  pub holds : HoldsReplay given request journal scripts input
  pub writes : WritesPart scripts input request.wait journal before now

-- a first part of a replay's output is written, and not all of it
pub record ReplaysShort (given : List NamedFile) (request : ReplayWords) (before now : List ℕ) : Type 0 where
  pub journal : List ℕ
  pub scripts : List Script
  pub input : List (List ℕ)
  pub holds : HoldsReplay given request journal scripts input
  pub writes : WritesLess scripts input request.wait journal before now

-- ---- causes

-- the end that the end of a journal's replay is
abbrev pub outcome_of_replay : ReplayEnd → CommandEnd
outcome_of_replay plays.Done = ends.Done
outcome_of_replay (plays.Refused number) = ends.LineRefused number
outcome_of_replay plays.WriteFault = ends.CannotWrite
outcome_of_replay plays.Memory = ends.OutOfMemory

-- why a replay ended so: the files that were handed in say so, a count of faults rose, or memory was wanting. The
-- counts are those of the shelf and of the output, the contents those of the output
abbrev pub BecauseReplay : CommandEnd
    → ReplayWords
    → (List NamedFile → Type 0)
    → Faults
    → Faults
    → ℕ
    → ℕ
    → List ℕ
    → List ℕ
    → Type 0
BecauseReplay ends.Done request Hands before after was now old new =
    (after ≡ before) × (now ≡ was) × Given Hands (λ given. ReplaysWhole given request None old new)
BecauseReplay (ends.LineRefused number) request Hands before after was now old new =
    (after ≡ before) × (now ≡ was) × Given Hands (λ given. ReplaysWhole given request (Some number) old new)
BecauseReplay ends.OutOfMemory request Hands before after was now old new =
    (after ≡ before) × (now ≡ was) × Given Hands (λ given. (new ≡ old) ⊎ ReplaysInPart given request old new)
BecauseReplay (ends.Refused name r) request Hands before after was now old new =
    (after ≡ before) × (now ≡ was) × Given Hands (λ given. IsRefusedBehind given request name.now r)
BecauseReplay (ends.CannotStore name) request Hands before after was now old new = ⊥
BecauseReplay (ends.CannotRead name) request Hands before after was now old new =
    Blames (Read name.now) before after
    × (now ≡ was)
    × IsNamedBy request name.now
    × Given Hands (λ given. IsReachedBy given request name.now)
BecauseReplay ends.CannotWrite request Hands before after was now old new =
    (after ≡ before) × Rose was now × Given Hands (λ given. ReplaysShort given request old new)
BecauseReplay ends.Usage request Hands before after was now old new = ⊥
BecauseReplay ends.NetworkFault request Hands before after was now old new = ⊥
BecauseReplay ends.ThrewUnshown request Hands before after was now old new = ⊥
BecauseReplay ends.TicketsSpent request Hands before after was now old new = ⊥
BecauseReplay (ends.PeerClosed replies) request Hands before after was now old new = ⊥
BecauseReplay (ends.Threw text) request Hands before after was now old new = ⊥
