use Rattle.cdp_host_isolation.proofs.TextLemmas.{in-order}
use Rattle.cdp_host_isolation.proofs.laws.texts_are_handed_out_in_order.Goals as goal

pub returns : goal.returns
returns c = λ P E s c wait history sent fits. in-order P E sent s c wait history fits
