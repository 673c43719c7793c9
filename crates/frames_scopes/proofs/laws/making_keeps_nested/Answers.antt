use Rattle.frames_scopes.proofs.NestLemmas.{making-nested}
use Rattle.frames_scopes.proofs.laws.making_keeps_nested.Goals as goal

pub returns : goal.returns
returns c = making-nested
