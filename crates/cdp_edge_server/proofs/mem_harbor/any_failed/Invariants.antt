use Rattle.std.proofs.Common.{◌≡◌, drop}
use Rattle.cdp_edge_server.specs.MemHarbor.{any_failed}
use Rattle.cdp_edge_server.proofs.mem_harbor.any_failed.Given as goal

-- no door so far has failed
abbrev pub invariant-loop-door : goal.invariant-loop-door
invariant-loop-door l = any_failed l.doors ≡ any_failed (drop l.door-index l.doors)
