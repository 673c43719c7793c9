use Rattle.std.proofs.Common.{ℕ, arith, length-take}
use Rattle.remote_objects.proofs.previews.shortened.Goals as goal

pub slice_bounds-from_slice-length : goal.slice_bounds-from_slice-length
slice_bounds-from_slice-length c = omega (arith, length-take {A = ℕ})
