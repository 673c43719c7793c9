use Rattle.cdp_host_isolation.proofs.OwnerLemmas.{handed-keeps}
use Rattle.cdp_host_isolation.proofs.laws.owners_alone_take_texts.Goals as goal

pub returns : goal.returns
returns c = λ P k s c wait history more owns owned none. handed-keeps P k s c wait history more owns owned none
