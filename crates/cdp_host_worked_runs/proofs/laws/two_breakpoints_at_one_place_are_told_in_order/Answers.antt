use Rattle.std.specs.Prelude.{[], false, refl}
use Rattle.cdp_host_worked_runs.specs.Scripts.{returning}
use Rattle.cdp_host_worked_runs.specs.TwoHits.{two_hits, two_hits_outcome}
use Rattle.cdp_host_worked_runs.proofs.Given.{played, worked-out}
use Rattle.cdp_host_worked_runs.proofs.laws.two_breakpoints_at_one_place_are_told_in_order.Goals as goal

pub returns : goal.returns
unfolding played
returns c = worked-out returning [] false 1 two_hits two_hits_outcome (λ body within. refl)
