use Rattle.cdp_host_isolation.proofs.StopLemmas.{paused-well}
use Rattle.cdp_host_isolation.proofs.laws.a_paused_program_has_an_enabled_session.Goals as goal

pub returns : goal.returns
returns c = λ P c wait history keeps. paused-well P c wait history keeps
