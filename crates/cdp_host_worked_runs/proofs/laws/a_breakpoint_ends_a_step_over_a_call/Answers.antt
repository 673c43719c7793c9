use Rattle.std.specs.Prelude.{[], false, refl}
use Rattle.cdp_host_worked_runs.specs.Scripts.{returning}
use Rattle.cdp_host_worked_runs.specs.StepOver.{step_over, step_over_outcome}
use Rattle.cdp_host_worked_runs.proofs.Given.{played, worked-out}
use Rattle.cdp_host_worked_runs.proofs.laws.a_breakpoint_ends_a_step_over_a_call.Goals as goal

pub returns : goal.returns
unfolding played
returns c = worked-out returning [] false 1 step_over step_over_outcome (λ body within. refl)
