use Rattle.std.proofs.Common.{◌≡◌}
use Rattle.locations.specs.Kinds.{kind_of}
use Rattle.locations.specs.Locations.{locations_below}
use Rattle.locations.proofs.locations.spots_of.Given as goal

abbrev pub invariant-loop-offset : goal.invariant-loop-offset
invariant-loop-offset l = l.spots.items ≡ locations_below l.source (kind_of l.kinds) l.offset
