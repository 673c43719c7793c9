use Rattle.cdp_host_isolation.proofs.MadeLemmas.{longest-exact}
use Rattle.cdp_host.specs.Protocols.{protocol}
use Rattle.cdp_host.proofs.laws.the_longest_run_is_the_longest.Goals as goal

pub returns : goal.returns
returns c = λ scripts moment most m. longest-exact (protocol scripts) moment most m
