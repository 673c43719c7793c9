use Rattle.std.proofs.Common.{take}
use Rattle.breakpoints.specs.PlaceIndex.{HoldsAll}
use Rattle.breakpoints.proofs.place_index.holds_all.Given as goal

abbrev pub invariant-loop-place : goal.invariant-loop-place
invariant-loop-place l = HoldsAll l.session (take l.place-index l.places) l.pairs
