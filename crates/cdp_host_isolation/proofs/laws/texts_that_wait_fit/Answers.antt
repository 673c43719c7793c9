use Rattle.cdp_host_isolation.proofs.RoomLemmas.{fit}
use Rattle.cdp_host_isolation.proofs.laws.texts_that_wait_fit.Goals as goal

pub returns : goal.returns
returns c = λ P s c wait history room. fit P room c wait history s
