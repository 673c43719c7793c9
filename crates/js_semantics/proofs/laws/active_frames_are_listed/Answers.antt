use Rattle.js_semantics.proofs.SourceLemmas.{scripts-listed}
use Rattle.js_semantics.proofs.laws.active_frames_are_listed.Goals as goal

pub returns : goal.returns
returns c = scripts-listed
