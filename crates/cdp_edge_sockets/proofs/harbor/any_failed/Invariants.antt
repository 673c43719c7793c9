use Rattle.std.proofs.Common.{◌≡◌, drop}
use Rattle.cdp_edge_sockets.specs.Counts.{any_failed}
use Rattle.cdp_edge_sockets.proofs.harbor.any_failed.Given as goal

-- no door so far has failed
abbrev pub invariant-loop-door : goal.invariant-loop-door
invariant-loop-door g l = any_failed l.doors ≡ any_failed (drop l.door-index l.doors)
