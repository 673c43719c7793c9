use Rattle.cdp_host_laws.proofs.BreakpointRuleLemmas.{set-then-on}
use Rattle.cdp_host_laws.proofs.rules.a_breakpoint_stops_it_once_it_goes_on.Goals as goal

pub returns : goal.returns
returns c = set-then-on
