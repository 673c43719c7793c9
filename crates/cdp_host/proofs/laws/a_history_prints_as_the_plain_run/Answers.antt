use Rattle.cdp_host.proofs.LawLemmas.{prints-plainly}
use Rattle.cdp_host.proofs.laws.a_history_prints_as_the_plain_run.Goals as goal

pub returns : goal.returns
returns c = prints-plainly
