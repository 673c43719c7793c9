use Rattle.std.proofs.Common.{[], ◌∙◌, ap}
use Rattle.std.specs.List.{find}
use Rattle.object_groups.specs.Handles.{has_number}
use Rattle.object_groups.proofs.TableLemmas.{found-handle}
use Rattle.object_groups.proofs.table.HandleTable.get.Goals as goal

pub returns : goal.returns
returns c =
    found-handle c.self.inside.by_number.entries [] c.self.inside.on_scratch c.args.number _ c.self.invariant
    c.get.ensures.value
    ∙ ap (find (has_number c.args.number)) c.self.view_is
