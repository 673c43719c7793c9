use Rattle.std.specs.Prelude.{[], false, refl}
use Rattle.cdp_host_worked_runs.specs.Scripts.{printing}
use Rattle.cdp_host_worked_runs.specs.FirstOfTwo.{first_of_two, first_of_two_outcome}
use Rattle.cdp_host_worked_runs.proofs.Given.{played, worked-out}
use Rattle.cdp_host_worked_runs.proofs.laws.a_second_session_changes_nothing_for_the_first.Goals as goal

pub returns : goal.returns
unfolding played
returns c = worked-out printing [] false 1 first_of_two first_of_two_outcome (λ body within. refl)
