use Rattle.cdp_host_isolation.proofs.OwnerLemmas.{handed-stays}
use Rattle.cdp_host_isolation.proofs.laws.entries_of_others_hand_out_nothing.Goals as goal

pub returns : goal.returns
returns c = λ P k s c wait history more owns owned nothing.
    handed-stays P k s c wait history more owns owned nothing
