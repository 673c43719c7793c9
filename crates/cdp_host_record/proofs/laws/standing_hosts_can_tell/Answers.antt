use Rattle.cdp_host_record.proofs.MeetLemmas.{attached-told, broken-attached, broken-owed, owed-told}
use Rattle.cdp_host_record.proofs.laws.standing_hosts_can_tell.Goals as goal

pub returns-clause-attached : goal.returns-clause-attached
returns-clause-attached g = attached-told

pub returns-clause-owed : goal.returns-clause-owed
returns-clause-owed g = owed-told

pub returns-clause-broken_attached : goal.returns-clause-broken_attached
returns-clause-broken_attached g = broken-attached

pub returns-clause-broken_owed : goal.returns-clause-broken_owed
returns-clause-broken_owed g = broken-owed
