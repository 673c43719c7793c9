use Rattle.std.specs.Prelude.{[], true, refl}
use Rattle.cdp_host_worked_runs.specs.Scripts.{adding}
use Rattle.cdp_host_worked_runs.specs.Client.{client, client_outcome}
use Rattle.cdp_host_worked_runs.proofs.Given.{played, worked-out}
use Rattle.cdp_host_worked_runs.proofs.laws.a_client_debugs_a_program_from_its_start.Goals as goal

pub returns : goal.returns
unfolding played
returns c = worked-out adding [] true 1 client client_outcome (λ body within. refl)
