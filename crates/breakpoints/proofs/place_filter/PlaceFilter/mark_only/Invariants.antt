use Rattle.std.proofs.Common.{take}
use Rattle.breakpoints.specs.PlaceFilter.{AreMarked}
use Rattle.breakpoints.proofs.place_filter.PlaceFilter.mark_only.Given as goal

abbrev pub invariant-loop-place : goal.invariant-loop-place
invariant-loop-place l = AreMarked (take l.place-index l.places) l.self
