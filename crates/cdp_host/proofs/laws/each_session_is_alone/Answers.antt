use Rattle.cdp_host_isolation.proofs.AloneLemmas.{alone}
use Rattle.cdp_host.specs.Programs.{start}
use Rattle.cdp_host.specs.Protocols.{protocol}
use Rattle.cdp_host.proofs.laws.each_session_is_alone.Goals as goal

pub returns : goal.returns
returns c = λ scripts input wait s history fits. alone (protocol scripts) s (start scripts input) wait history fits
