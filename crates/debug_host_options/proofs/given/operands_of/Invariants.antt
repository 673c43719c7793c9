use Rattle.std.proofs.Common.{◌≡◌, ◌++◌, drop}
use Rattle.debug_host_options.specs.Given.{operands_of}
use Rattle.debug_host_options.specs.Held.{parts_held, texts_held}
use Rattle.debug_host_options.proofs.given.operands_of.Given as goal

-- the operands so far, and those of the parts that are left
abbrev pub invariant-loop-part : goal.invariant-loop-part
invariant-loop-part l =
    texts_held l.operands.items ++ operands_of (parts_held (drop l.part-index l.parts))
    ≡ operands_of (parts_held l.parts)
