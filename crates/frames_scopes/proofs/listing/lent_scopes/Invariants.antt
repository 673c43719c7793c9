use Rattle.std.proofs.Common.{◌≡◌, ◌++◌, map}
use Rattle.frames_scopes_types.specs.Views.{scope_of}
use Rattle.frames_scopes.proofs.listing.lent_scopes.Given as goal

abbrev pub invariant-loop-view : goal.invariant-loop-view
invariant-loop-view l = map scope_of l.list.items ++ l.view-iterator ≡ l.fn.scopes
