use Rattle.std.specs.Prelude.{[], false, refl}
use Rattle.cdp_host_worked_runs.specs.Scripts.{nothing}
use Rattle.cdp_host_worked_runs.specs.Order.{order, order_outcome}
use Rattle.cdp_host_worked_runs.proofs.Given.{played, worked-out}
use Rattle.cdp_host_worked_runs.proofs.laws.properties_come_in_order.Goals as goal

pub returns : goal.returns
unfolding played
returns c = worked-out nothing [] false 1 order order_outcome (λ body within. refl)
