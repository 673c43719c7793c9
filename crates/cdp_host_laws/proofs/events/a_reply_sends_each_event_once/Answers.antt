use Rattle.cdp_host_laws.proofs.EventLaws.{reply-sends}
use Rattle.cdp_host_laws.proofs.events.a_reply_sends_each_event_once.Goals as goal

pub returns : goal.returns
returns c = reply-sends
