-- The break locations of scripts, a list for each.
use Rattle.std.specs.Prelude.{List}
use Rattle.std.specs.Global.{Vec}
use Rattle.locations.specs.declared.spot.Spot.{Spot}
use Rattle.locations.specs.Order.{IsAscending}

-- the locations in a list of the code
abbrev pub spots_in : Vec Spot → List Spot
spots_in spots = spots.items

-- each location stands before those that follow it
abbrev pub IsInOrder : Vec Spot → Type 0
IsInOrder spots = IsAscending spots.items
