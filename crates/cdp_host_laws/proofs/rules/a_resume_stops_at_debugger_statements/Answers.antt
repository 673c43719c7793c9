use Rattle.cdp_host_laws.proofs.RunningRuleLemmas.{resume-free}
use Rattle.cdp_host_laws.proofs.rules.a_resume_stops_at_debugger_statements.Goals as goal

pub returns : goal.returns
returns c = resume-free
