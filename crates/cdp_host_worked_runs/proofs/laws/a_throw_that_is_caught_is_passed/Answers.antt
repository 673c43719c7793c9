use Rattle.std.specs.Prelude.{[], false, refl}
use Rattle.cdp_host_worked_runs.specs.Scripts.{throwing_caught}
use Rattle.cdp_host_worked_runs.specs.CaughtPassed.{caught_passed, caught_passed_outcome}
use Rattle.cdp_host_worked_runs.proofs.Given.{played, worked-out}
use Rattle.cdp_host_worked_runs.proofs.laws.a_throw_that_is_caught_is_passed.Goals as goal

pub returns : goal.returns
unfolding played
returns c = worked-out throwing_caught [] false 1 caught_passed caught_passed_outcome (λ body within. refl)
