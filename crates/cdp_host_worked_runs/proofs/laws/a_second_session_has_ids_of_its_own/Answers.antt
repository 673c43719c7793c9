use Rattle.std.specs.Prelude.{[], false, refl}
use Rattle.cdp_host_worked_runs.specs.Scripts.{printing}
use Rattle.cdp_host_worked_runs.specs.SecondOfTwo.{second_of_two, second_of_two_outcome}
use Rattle.cdp_host_worked_runs.proofs.Given.{played, worked-out}
use Rattle.cdp_host_worked_runs.proofs.laws.a_second_session_has_ids_of_its_own.Goals as goal

pub returns : goal.returns
unfolding played
returns c = worked-out printing [] false 2 second_of_two second_of_two_outcome (λ body within. refl)
