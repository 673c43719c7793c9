use Rattle.cdp_host_laws.proofs.LeaveRuleLemmas.{refused-changes}
use Rattle.cdp_host_laws.proofs.leaving.a_refusal_changes_only_what_waits.Goals as goal

pub returns : goal.returns
returns c = refused-changes
