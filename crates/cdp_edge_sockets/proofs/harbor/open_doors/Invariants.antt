use Rattle.std.proofs.Common.{◌≡◌, length, All}
use Rattle.cdp_edge_sockets.specs.Counts.{IsNewDoor}
use Rattle.cdp_edge_sockets.proofs.harbor.open_doors.Given as goal

-- as many doors as rounds, all of them new
abbrev pub invariant-loop : goal.invariant-loop
invariant-loop g l = record {
  number : length l.doors.items ≡ l.counter;
  new : All IsNewDoor l.doors.items;
}
