use Rattle.cdp_session_laws.proofs.AskingLemmas.{active-set, runtime-off, runtime-on, skip-set}
use Rattle.cdp_session_laws.proofs.asking.flags_are_as_they_were_set_last.Goals as goal

pub returns : goal.returns
returns c = record { skips = skip-set; active = active-set; told = runtime-on; untold = runtime-off }
