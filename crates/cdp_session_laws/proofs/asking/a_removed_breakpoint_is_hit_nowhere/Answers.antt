use Rattle.cdp_session_laws.proofs.AskingLemmas.{removed}
use Rattle.cdp_session_laws.proofs.asking.a_removed_breakpoint_is_hit_nowhere.Goals as goal

pub returns : goal.returns
returns c = removed
