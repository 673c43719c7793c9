use Rattle.cdp_edge_server.proofs.HoldLemmas.{behind-one}
use Rattle.cdp_edge_server.proofs.script.Schedule.release.Goals as goal

pub loop-self-preserved : goal.loop-self-preserved
loop-self-preserved c =
    rw c.drop_next.ensures
    (behind-one _ c.loop-self.self c.loop-self.invariant (c.is_released.ensures c.loop-self-test.true))
