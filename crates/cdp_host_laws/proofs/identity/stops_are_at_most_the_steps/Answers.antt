use Rattle.cdp_host.specs.Programs.{start}
use Rattle.cdp_host.specs.Protocols.{protocol}
use Rattle.cdp_host_laws.proofs.StopNumberLemmas.{stops-few}
use Rattle.cdp_host_laws.proofs.identity.stops_are_at_most_the_steps.Goals as goal

pub returns : goal.returns
returns c = λ scripts input wait history. stops-few (protocol scripts) (start scripts input) wait history
