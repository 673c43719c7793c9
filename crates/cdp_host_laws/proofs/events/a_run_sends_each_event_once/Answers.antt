use Rattle.cdp_host_laws.proofs.EventLaws.{run-sends}
use Rattle.cdp_host_laws.proofs.events.a_run_sends_each_event_once.Goals as goal

pub returns : goal.returns
returns c = run-sends
