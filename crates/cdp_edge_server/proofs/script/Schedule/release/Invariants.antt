use Rattle.std.proofs.Common.{length}
use Rattle.cdp_edge_server.specs.Coming.{IsBehindHolds}
use Rattle.cdp_edge_server.proofs.script.Schedule.release.Given as goal

-- only holds were dropped
abbrev pub invariant-loop-self : goal.invariant-loop-self
invariant-loop-self l = IsBehindHolds l.fn.self l.self

abbrev pub decreases-loop-self : goal.decreases-loop-self
decreases-loop-self l = length l.self
