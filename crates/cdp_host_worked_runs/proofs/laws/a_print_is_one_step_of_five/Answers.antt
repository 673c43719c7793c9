use Rattle.std.specs.Prelude.{[], false, refl}
use Rattle.cdp_host_worked_runs.specs.Scripts.{printing}
use Rattle.cdp_host_worked_runs.specs.Print.{print, print_outcome}
use Rattle.cdp_host_worked_runs.proofs.Given.{played, worked-out}
use Rattle.cdp_host_worked_runs.proofs.laws.a_print_is_one_step_of_five.Goals as goal

pub returns : goal.returns
unfolding played
returns c = worked-out printing [] false 1 print print_outcome (λ body within. refl)
