-- How the writing of a text that tells of the program ends, and why.
use Rattle.std.specs.Prelude.{◌≡◌, ℕ, List}
use Rattle.cdp_edge.specs.Outside.{Rose, gains}
use Rattle.debug_host_commands.specs.declared.outcome.CommandEnd.{CommandEnd}
use Rattle.debug_host_commands.specs.declared.outcome.CommandEnd.TheVariants as ends

-- why it ended so: the text is written, or the count of faults rose, or memory was wanting. The counts and the contents
-- are those of the output
abbrev pub BecauseTold : CommandEnd → List ℕ → ℕ → ℕ → List ℕ → List ℕ → Type 0
BecauseTold ends.Done text was now old new = (now ≡ was) × (new ≡ gains old text)
BecauseTold ends.CannotWrite text was now old new = Rose was now
BecauseTold ends.OutOfMemory text was now old new = now ≡ was
BecauseTold end text was now old new = ⊥
