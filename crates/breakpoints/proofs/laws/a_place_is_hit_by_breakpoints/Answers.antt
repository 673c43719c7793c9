use Rattle.breakpoints.proofs.HitLemmas.{is_hit-iff}
use Rattle.breakpoints.proofs.laws.a_place_is_hit_by_breakpoints.Goals as goal

pub returns : goal.returns
returns c = is_hit-iff
