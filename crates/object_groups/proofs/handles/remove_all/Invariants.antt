use Rattle.std.proofs.Common.{◌≡◌}
use Rattle.object_groups.specs.Index.{without_all}
use Rattle.object_groups.proofs.handles.remove_all.Given as goal

abbrev pub invariant-loop-number : goal.invariant-loop-number
invariant-loop-number l = without_all l.number-iterator l.table ≡ without_all l.fn.numbers.keys l.fn.table
