use Rattle.cdp_host_laws.proofs.BreakpointRuleLemmas.{set-until-if}
use Rattle.cdp_host_laws.proofs.rules.a_condition_stops_where_it_holds.Goals as goal

pub returns : goal.returns
returns c = set-until-if
