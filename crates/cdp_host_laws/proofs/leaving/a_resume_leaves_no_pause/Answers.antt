use Rattle.cdp_host_laws.proofs.LeaveRuleLemmas.{resume-leaves}
use Rattle.cdp_host_laws.proofs.leaving.a_resume_leaves_no_pause.Goals as goal

pub returns : goal.returns
returns c = resume-leaves
