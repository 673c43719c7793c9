use Rattle.std.proofs.Common.{take}
use Rattle.breakpoints.specs.Indexed.{KeepsStanding}
use Rattle.breakpoints.proofs.breakpoints.take_unless_stand.Given as goal

abbrev pub invariant-loop-place : goal.invariant-loop-place
invariant-loop-place l = KeepsStanding (take l.place-index l.places) l.list l.initial.index l.index
