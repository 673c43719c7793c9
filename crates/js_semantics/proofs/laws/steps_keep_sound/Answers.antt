use Rattle.js_semantics.proofs.SoundSteps.{steps-sound}
use Rattle.js_semantics.proofs.laws.steps_keep_sound.Goals as goal

pub returns : goal.returns
returns c = steps-sound
