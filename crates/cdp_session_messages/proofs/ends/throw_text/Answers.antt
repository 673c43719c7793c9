use Rattle.cdp_session_messages.proofs.ends.throw_text.Goals as goal

pub returns : goal.returns
returns c = rw c.in_ok-params.ensures at c.event_text.ensures
