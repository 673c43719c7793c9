use Rattle.cdp_host_laws.proofs.EventLaws.{other-sends}
use Rattle.cdp_host_laws.proofs.events.others_send_a_resume_once.Goals as goal

pub returns : goal.returns
returns c = other-sends
