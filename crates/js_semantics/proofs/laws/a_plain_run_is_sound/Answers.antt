use Rattle.js_semantics.proofs.StartLemmas.{plain-sound}
use Rattle.js_semantics.proofs.laws.a_plain_run_is_sound.Goals as goal

pub returns : goal.returns
returns c = plain-sound
