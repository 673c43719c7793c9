use Rattle.std.proofs.Common.{◌≡◌, ◌++◌, length, map, option_map, string_bytes}
use Rattle.debug_host_options.specs.Parts.{parts_of}
use Rattle.debug_host_options.specs.Held.{parts_held}
use Rattle.debug_host_options.proofs.part.read_parts.Given as goal

-- the parts so far, and those of the words that are left
abbrev pub invariant-loop-rest : goal.invariant-loop-rest
invariant-loop-rest l =
    option_map (λ parts. parts_held l.parts.items ++ parts) (parts_of l.command (map string_bytes l.rest))
    ≡ parts_of l.command (map string_bytes l.words)

abbrev pub decreases-loop-rest : goal.decreases-loop-rest
decreases-loop-rest l = length l.rest
