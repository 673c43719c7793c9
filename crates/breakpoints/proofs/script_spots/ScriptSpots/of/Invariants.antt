use Rattle.std.proofs.Common.{◌≡◌, ◌++◌, drop, map, All}
use Rattle.locations.specs.Locations.{break_locations}
use Rattle.breakpoints.specs.Found.{spots_in, IsInOrder}
use Rattle.breakpoints.proofs.script_spots.ScriptSpots.of.Given as goal

abbrev pub invariant-loop-script : goal.invariant-loop-script
invariant-loop-script l = record {
  found : map spots_in l.lists.items ++ map break_locations (drop l.script-index l.scripts)
      ≡ map break_locations l.scripts;
  ascending : All IsInOrder l.lists.items;
}
