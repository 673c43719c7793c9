use Rattle.std.specs.Prelude.{[], false, refl}
use Rattle.cdp_host_worked_runs.specs.Scripts.{counting}
use Rattle.cdp_host_worked_runs.specs.Effect.{effect, effect_outcome}
use Rattle.cdp_host_worked_runs.proofs.Given.{played, worked-out}
use Rattle.cdp_host_worked_runs.proofs.laws.an_evaluation_with_an_effect_changes_nothing.Goals as goal

pub returns : goal.returns
unfolding played
returns c = worked-out counting [] false 1 effect effect_outcome (λ body within. refl)
