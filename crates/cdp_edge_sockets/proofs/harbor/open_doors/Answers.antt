use Rattle.cdp_edge_sockets.proofs.DoorLemmas.{one-longer, all-new}
use Rattle.cdp_edge_sockets.proofs.harbor.open_doors.Goals as goal

-- one more door was opened, and is behind the others
pub loop-preserved : goal.loop-preserved
loop-preserved g c = record {
  number = one-longer c.loop.doors.items c.push-in-loop.new.self.items _ c.loop.counter c.in_ok-push-2.ensures.items c.loop.invariant.number;
  new = all-new c.loop.doors.items c.push-in-loop.new.self.items _ c.in_ok-push-2.ensures.items c.loop.invariant.new c.in_ok-new.ensures;
}
