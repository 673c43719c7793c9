use Rattle.frames_scopes.proofs.NestRuns.{plain-whole}
use Rattle.frames_scopes.proofs.laws.frames_have_whole_chains.Goals as goal

pub returns : goal.returns
returns c = plain-whole
