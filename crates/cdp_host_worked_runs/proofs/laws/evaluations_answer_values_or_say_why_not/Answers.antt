use Rattle.std.specs.Prelude.{[], false, refl}
use Rattle.cdp_host_worked_runs.specs.Scripts.{nothing}
use Rattle.cdp_host_worked_runs.specs.Evaluations.{evaluations, evaluations_outcome}
use Rattle.cdp_host_worked_runs.proofs.Given.{played, worked-out}
use Rattle.cdp_host_worked_runs.proofs.laws.evaluations_answer_values_or_say_why_not.Goals as goal

pub returns : goal.returns
unfolding played
returns c = worked-out nothing [] false 1 evaluations evaluations_outcome (λ body within. refl)
