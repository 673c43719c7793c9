-- Why a command ends whose first file can't be read.
use Rattle.std.specs.Prelude.{◌≡◌, ℕ, List, []}
use Rattle.cdp_edge.specs.Blame.{Faults, Blames, Read}
use Rattle.cdp_edge.specs.Outside.{NamedFile}
use Rattle.debug_host_commands.specs.declared.outcome.CommandEnd.{CommandEnd}
use Rattle.debug_host_commands.specs.declared.outcome.CommandEnd.TheVariants as ends

-- why it ended so: the shelf told a fault at the file of this name, or memory was wanting, and nothing was handed in;
-- the counts are those of the shelf
abbrev pub BecauseUnread : CommandEnd → List ℕ → (List NamedFile → Type 0) → Faults → Faults → Type 0
BecauseUnread (ends.CannotRead name) file Hands before after =
    Blames (Read name.now) before after × (file ≡ name.now) × Hands []
BecauseUnread ends.OutOfMemory file Hands before after = (after ≡ before) × Hands []
BecauseUnread end file Hands before after = ⊥
