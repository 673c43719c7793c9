use Rattle.cdp_host_isolation.proofs.AloneLemmas.{same-views}
use Rattle.cdp_host_isolation.proofs.laws.same_views_are_sent_the_same.Goals as goal

pub returns : goal.returns
returns c = λ P s c wait history other fits more same. same-views P s c wait history other fits more same
