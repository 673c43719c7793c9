use Rattle.frames_scopes.proofs.FrameLemmas.{walk-length}
use Rattle.frames_scopes.proofs.laws.each_active_frame_is_listed.Goals as goal

pub returns : goal.returns
returns c = walk-length
