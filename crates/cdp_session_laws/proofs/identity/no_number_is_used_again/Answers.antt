use Rattle.cdp_session_laws.proofs.LifeLemmas.{no-number-again}
use Rattle.cdp_session_laws.proofs.identity.no_number_is_used_again.Goals as goal

pub returns : goal.returns
returns c = no-number-again
