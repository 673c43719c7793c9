use Rattle.js_semantics_limits.proofs.CallLemmas.{frames-few}
use Rattle.js_semantics_limits.proofs.laws.few_frames_are_active.Goals as goal

pub returns : goal.returns
returns c = frames-few
