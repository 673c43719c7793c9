use Rattle.std.proofs.Common.{◌≡◌, ◌++◌, drop, map, string_bytes}
use Rattle.debug_host_options.specs.Parts.{operands_alone}
use Rattle.debug_host_options.specs.Held.{parts_held}
use Rattle.debug_host_options.proofs.part.add_operands.Given as goal

-- the words so far are there
abbrev pub invariant-loop-word : goal.invariant-loop-word
invariant-loop-word l =
    parts_held l.parts.items ++ operands_alone (map string_bytes (drop l.word-index l.words))
    ≡ parts_held l.fn.parts.items ++ operands_alone (map string_bytes l.words)
