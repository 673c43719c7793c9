use Rattle.cdp_host_laws.proofs.UnaskedLemmas.{paused-unasked}
use Rattle.cdp_host_laws.proofs.rules.a_paused_program_has_no_requests.Goals as goal

pub returns : goal.returns
returns c = paused-unasked
