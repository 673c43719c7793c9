use Rattle.std.specs.Prelude.{[], false, refl}
use Rattle.cdp_host_worked_runs.specs.Scripts.{printing}
use Rattle.cdp_host_worked_runs.specs.Breakpoint.{breakpoint, breakpoint_outcome}
use Rattle.cdp_host_worked_runs.proofs.Given.{played, worked-out}
use Rattle.cdp_host_worked_runs.proofs.laws.a_breakpoint_stops_before_its_statement.Goals as goal

pub returns : goal.returns
unfolding played
returns c = worked-out printing [] false 1 breakpoint breakpoint_outcome (λ body within. refl)
