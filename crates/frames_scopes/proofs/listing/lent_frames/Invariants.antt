use Rattle.std.proofs.Common.{◌≡◌, ◌++◌, map}
use Rattle.frames_scopes_types.specs.Views.{frame_of}
use Rattle.frames_scopes.proofs.listing.lent_frames.Given as goal

abbrev pub invariant-loop-view : goal.invariant-loop-view
invariant-loop-view l = map frame_of l.list.items ++ l.view-iterator ≡ l.fn.frames
