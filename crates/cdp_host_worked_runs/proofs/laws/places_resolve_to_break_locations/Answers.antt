use Rattle.std.specs.Prelude.{[], false, refl}
use Rattle.cdp_host_worked_runs.specs.Scripts.{falling}
use Rattle.cdp_host_worked_runs.specs.Places.{places, places_outcome}
use Rattle.cdp_host_worked_runs.proofs.Given.{played, worked-out}
use Rattle.cdp_host_worked_runs.proofs.laws.places_resolve_to_break_locations.Goals as goal

pub returns : goal.returns
unfolding played
returns c = worked-out falling [] false 1 places places_outcome (λ body within. refl)
