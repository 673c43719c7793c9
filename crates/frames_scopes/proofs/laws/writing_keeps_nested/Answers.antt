use Rattle.frames_scopes.proofs.NestLemmas.{writing-nested}
use Rattle.frames_scopes.proofs.laws.writing_keeps_nested.Goals as goal

pub returns : goal.returns
returns c = writing-nested
