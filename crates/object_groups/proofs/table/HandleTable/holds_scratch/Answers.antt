use Rattle.std.proofs.Common.{◌∙◌, ap}
use Rattle.std.specs.Prelude.{nat_lt}
use Rattle.std.specs.List.{list_any}
use Rattle.std.specs.Map.{values_of}
use Rattle.object_groups.specs.Handles.{is_on_scratch}
use Rattle.object_groups.proofs.TableLemmas.{some-counted}
use Rattle.object_groups.proofs.table.HandleTable.holds_scratch.Goals as goal

pub returns : goal.returns
returns c =
    ap (nat_lt 0) c.self.invariant.counted
    ∙ some-counted (values_of c.self.inside.by_number.entries)
    ∙ ap (list_any is_on_scratch) c.self.view_is
