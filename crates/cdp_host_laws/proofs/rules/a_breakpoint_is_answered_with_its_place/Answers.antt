use Rattle.cdp_host_laws.proofs.BreakpointRuleLemmas.{set-texts}
use Rattle.cdp_host_laws.proofs.rules.a_breakpoint_is_answered_with_its_place.Goals as goal

pub returns : goal.returns
returns c = set-texts
