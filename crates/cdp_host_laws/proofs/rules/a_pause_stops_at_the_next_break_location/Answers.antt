use Rattle.cdp_host_laws.proofs.RunningRuleLemmas.{pause-until}
use Rattle.cdp_host_laws.proofs.rules.a_pause_stops_at_the_next_break_location.Goals as goal

pub returns : goal.returns
returns c = pause-until
