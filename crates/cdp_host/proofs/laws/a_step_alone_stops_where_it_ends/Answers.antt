use Rattle.cdp_host.proofs.StepLemmas.{steps-stop}
use Rattle.cdp_host.proofs.laws.a_step_alone_stops_where_it_ends.Goals as goal

pub returns : goal.returns
returns c = steps-stop
