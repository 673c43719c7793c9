use Rattle.cdp_host_isolation.specs.Passes.{GoesAlong, HearsOf}
use Rattle.cdp_host.specs.Protocols.{protocol}
use Rattle.cdp_host.specs.Watching.{step_seen}
use Rattle.cdp_host.proofs.watching.stop_all.Given as goal

abbrev pub invariant-loop-index : goal.invariant-loop-index
invariant-loop-index g l =
    GoesAlong (HearsOf (protocol l.situation.scripts.now) l.number (step_seen g.P.Program.standing l.situation l.step))
    l.index l.fn.seats l.seats l.named
