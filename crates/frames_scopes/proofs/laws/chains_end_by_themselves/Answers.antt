use Rattle.frames_scopes.proofs.ChainLemmas.{whole-chain}
use Rattle.frames_scopes.proofs.laws.chains_end_by_themselves.Goals as goal

pub returns : goal.returns
returns c = whole-chain
