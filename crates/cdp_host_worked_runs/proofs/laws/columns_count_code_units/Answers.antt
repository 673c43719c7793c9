use Rattle.std.specs.Prelude.{[], false, refl}
use Rattle.cdp_host_worked_runs.specs.Scripts.{smiling}
use Rattle.cdp_host_worked_runs.specs.Smile.{smile, smile_outcome}
use Rattle.cdp_host_worked_runs.proofs.Given.{played, worked-out}
use Rattle.cdp_host_worked_runs.proofs.laws.columns_count_code_units.Goals as goal

pub returns : goal.returns
unfolding played
returns c = worked-out smiling [] false 1 smile smile_outcome (λ body within. refl)
