use Rattle.cdp_host_record.proofs.CallLemmas.{idles}
use Rattle.cdp_host_record.proofs.recorded.RecordedHosted.state.Goals as goal

pub returns-clause-history : goal.returns-clause-history
returns-clause-history g c = λ h stood. c.state.ensures.history h stood.0

pub returns-clause-state : goal.returns-clause-state
returns-clause-state g c = λ h stood. c.state.ensures.state h stood.0

pub returns-clause-idle : goal.returns-clause-idle
returns-clause-idle g c = λ k h stood. (
  c.state.ensures.idle k h stood.0,
  idles g.H.Hosted.debugs h k c.args.self.now.journal stood.1,
)

pub returns-clause-shut : goal.returns-clause-shut
returns-clause-shut g c = λ s held h stood. c.state.ensures.shut s held h stood.0
