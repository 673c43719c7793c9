use Rattle.cdp_host_record.proofs.recorded.RecordedHosted.is_attached.Goals as goal

pub returns-clause-held : goal.returns-clause-held
returns-clause-held g c = λ held h stood. c.is_attached.ensures.held held h stood.0
