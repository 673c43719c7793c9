use Rattle.js_heap.proofs.SoundLemmas.{writing-sound}
use Rattle.js_heap.proofs.laws.writing_keeps_sound.Goals as goal

pub returns : goal.returns
returns c = writing-sound
