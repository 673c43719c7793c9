use Rattle.cdp_host_laws.proofs.BreakpointRuleLemmas.{set-until}
use Rattle.cdp_host_laws.proofs.rules.a_breakpoint_stops_there.Goals as goal

pub returns : goal.returns
returns c = set-until
