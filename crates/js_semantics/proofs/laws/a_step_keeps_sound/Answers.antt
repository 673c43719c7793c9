use Rattle.js_semantics.proofs.SoundSteps.{next-sound}
use Rattle.js_semantics.proofs.laws.a_step_keeps_sound.Goals as goal

pub returns : goal.returns
returns c = next-sound
