use Rattle.js_heap.proofs.SoundLemmas.{making-sound}
use Rattle.js_heap.proofs.laws.making_keeps_sound.Goals as goal

pub returns : goal.returns
returns c = making-sound
