use Rattle.std.specs.Prelude.{[], false, refl}
use Rattle.cdp_host_worked_runs.specs.Scripts.{throwing}
use Rattle.cdp_host_worked_runs.specs.Uncaught.{uncaught, uncaught_outcome}
use Rattle.cdp_host_worked_runs.proofs.Given.{played, worked-out}
use Rattle.cdp_host_worked_runs.proofs.laws.a_throw_that_nothing_catches_stops.Goals as goal

pub returns : goal.returns
unfolding played
returns c = worked-out throwing [] false 1 uncaught uncaught_outcome (λ body within. refl)
