use Rattle.std.specs.Prelude.{[], false, refl}
use Rattle.cdp_host_worked_runs.specs.Scripts.{nesting}
use Rattle.cdp_host_worked_runs.specs.Scopes.{scopes, scopes_outcome}
use Rattle.cdp_host_worked_runs.proofs.Given.{played, worked-out}
use Rattle.cdp_host_worked_runs.proofs.laws.scopes_are_listed_from_the_innermost.Goals as goal

pub returns : goal.returns
unfolding played
returns c = worked-out nesting [] false 1 scopes scopes_outcome (λ body within. refl)
