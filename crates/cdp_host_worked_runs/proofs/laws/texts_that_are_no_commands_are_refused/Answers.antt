use Rattle.std.specs.Prelude.{[], false, refl}
use Rattle.cdp_host_worked_runs.specs.Scripts.{nothing}
use Rattle.cdp_host_worked_runs.specs.Refused.{refused, refused_outcome}
use Rattle.cdp_host_worked_runs.proofs.Given.{played, worked-out}
use Rattle.cdp_host_worked_runs.proofs.laws.texts_that_are_no_commands_are_refused.Goals as goal

pub returns : goal.returns
unfolding played
returns c = worked-out nothing [] false 1 refused refused_outcome (λ body within. refl)
