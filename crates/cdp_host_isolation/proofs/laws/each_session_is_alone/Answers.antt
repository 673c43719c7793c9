use Rattle.cdp_host_isolation.proofs.AloneLemmas.{alone}
use Rattle.cdp_host_isolation.proofs.laws.each_session_is_alone.Goals as goal

pub returns : goal.returns
returns c = λ P s c wait history fits. alone P s c wait history fits
