use Rattle.std.proofs.Common.{◌≡◌, drop}
use Rattle.debug_host_options.specs.Given.{is_given}
use Rattle.debug_host_options.specs.Held.{parts_held}
use Rattle.debug_host_options.proofs.given.is_given.Given as goal

-- none of the parts so far is the option
abbrev pub invariant-loop-part : goal.invariant-loop-part
invariant-loop-part l =
    is_given l.option (parts_held (drop l.part-index l.parts)) ≡ is_given l.option (parts_held l.parts)
