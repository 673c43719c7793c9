use Rattle.frames_scopes.proofs.NestSteps.{next-nested}
use Rattle.frames_scopes.proofs.laws.a_step_keeps_nested.Goals as goal

pub returns : goal.returns
returns c = next-nested
