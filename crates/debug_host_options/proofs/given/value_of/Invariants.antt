use Rattle.std.proofs.Common.{◌≡◌, drop}
use Rattle.debug_host_options.specs.Given.{value_of}
use Rattle.debug_host_options.specs.Held.{parts_held}
use Rattle.debug_host_options.proofs.given.value_of.Given as goal

-- none of the parts so far is the option
abbrev pub invariant-loop-part : goal.invariant-loop-part
invariant-loop-part l =
    value_of l.option (parts_held (drop l.part-index l.parts)) ≡ value_of l.option (parts_held l.parts)
