use Rattle.js_semantics_limits.proofs.CallLaws.{program-rests, tree-rests}
use Rattle.js_semantics_limits.proofs.laws.sources_are_at_rest.Goals as goal

pub returns : goal.returns
returns c = record { scripts = program-rests; kept = tree-rests }
