use Rattle.js_semantics_limits.proofs.StepLemmas.{program-within}
use Rattle.js_semantics_limits.proofs.laws.a_program_stays_within_its_room.Goals as goal

pub returns : goal.returns
returns c = program-within
