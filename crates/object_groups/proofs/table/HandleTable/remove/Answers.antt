use Rattle.std.proofs.Common.{◌∙◌, ap, sym}
use Rattle.std.specs.Prelude.{filter}
use Rattle.std.specs.Int.{from_bool}
use Rattle.std.specs.List.{find}
use Rattle.object_groups.specs.Handles.{has_number, has_another_number}
use Rattle.object_groups.proofs.TableLemmas.{found-handle, left-values, taken-counted, left-table}
use Rattle.object_groups.proofs.table.HandleTable.remove.Goals as goal

pub returns-in_err-handle-clause-handle : goal.returns-in_err-handle-clause-handle
returns-in_err-handle-clause-handle c =
    c.from_residual.ensures ∙ sym c.in_err-handle.was
    ∙ found-handle c.self.inside.by_number.entries c.remove.new.self.entries c.self.inside.on_scratch c.args.number _
    c.self.invariant c.remove.ensures.value
    ∙ ap (find (has_number c.args.number)) c.self.view_is

pub returns-in_err-handle-clause-rest : goal.returns-in_err-handle-clause-rest
returns-in_err-handle-clause-rest c =
    left-values c.self.inside.by_number.entries c.remove.new.self.entries c.self.inside.on_scratch c.args.number
    c.self.invariant c.remove.ensures.entries
    ∙ ap (filter (has_another_number c.args.number)) c.self.view_is

pub overflow_sub-self : goal.overflow_sub-self
overflow_sub-self c =
    taken-counted c.self.inside.by_number.entries c.remove.new.self.entries c.self.inside.on_scratch c.args.number
    c.from.result c.in_ok-handle.handle c.self.invariant
    (sym c.in_ok-handle.was ∙ c.remove.ensures.value) c.remove.ensures.entries
    (c.from.ensures ∙ ap from_bool c.is_on_scratch.ensures)

pub invariant_of-self-2 : goal.invariant_of-self-2
invariant_of-self-2 c =
    left-table c.self.inside.by_number.entries c.remove.new.self.entries c.self.inside.on_scratch c.args.number
    c.from.result c.in_ok-handle.handle c.self.invariant
    (sym c.in_ok-handle.was ∙ c.remove.ensures.value) c.remove.ensures.entries
    (c.from.ensures ∙ ap from_bool c.is_on_scratch.ensures)

pub returns-clause-handle : goal.returns-clause-handle
returns-clause-handle c =
    sym c.in_ok-handle.was
    ∙ found-handle c.self.inside.by_number.entries c.remove.new.self.entries c.self.inside.on_scratch c.args.number _
    c.self.invariant c.remove.ensures.value
    ∙ ap (find (has_number c.args.number)) c.self.view_is

pub returns-clause-rest : goal.returns-clause-rest
returns-clause-rest c =
    left-values c.self.inside.by_number.entries c.remove.new.self.entries c.self.inside.on_scratch c.args.number
    c.self.invariant c.remove.ensures.entries
    ∙ ap (filter (has_another_number c.args.number)) c.self.view_is
