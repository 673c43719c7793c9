use Rattle.frames_scopes.proofs.ChainLemmas.{one-local}
use Rattle.frames_scopes.proofs.laws.one_scope_is_local.Goals as goal

pub returns : goal.returns
returns c = one-local
