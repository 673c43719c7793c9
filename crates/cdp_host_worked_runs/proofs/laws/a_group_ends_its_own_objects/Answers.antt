use Rattle.std.specs.Prelude.{[], false, refl}
use Rattle.cdp_host_worked_runs.specs.Scripts.{nothing}
use Rattle.cdp_host_worked_runs.specs.Groups.{groups, groups_outcome}
use Rattle.cdp_host_worked_runs.proofs.Given.{played, worked-out}
use Rattle.cdp_host_worked_runs.proofs.laws.a_group_ends_its_own_objects.Goals as goal

pub returns : goal.returns
unfolding played
returns c = worked-out nothing [] false 1 groups groups_outcome (λ body within. refl)
