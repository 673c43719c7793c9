use Rattle.std.proofs.Common.{◌++◌, ◌∷◌, [], length, ap, subst, sym, ◌∙◌, arith}
use Rattle.std.specs.Int.{from_bool}
use Rattle.object_groups.specs.Numbers.{AllBelow}
use Rattle.object_groups.proofs.TableLemmas.{added-values, added-table, one-more}
use Rattle.object_groups.proofs.table.HandleTable.add.Goals as goal

pub overflow_add-on_scratch : goal.overflow_add-on_scratch
overflow_add-on_scratch c =
    let most = one-more c.self.inside.by_number.entries c.self.inside.on_scratch c.from.result c.args.handle
    c.self.invariant
    (c.from.ensures ∙ ap from_bool c.is_on_scratch.ensures) in
    let long = ap length c.self.view_is in
    omega (arith, most, long, c.requires.room)

pub invariant_of-self-2 : goal.invariant_of-self-2
invariant_of-self-2 c =
    added-table c.self.inside.by_number.entries c.insert.new.self.entries c.self.inside.on_scratch c.args.handle
    c.from.result c.self.invariant
    (subst (AllBelow c.args.handle.number) (sym c.self.view_is) c.requires.below)
    (c.from.ensures ∙ ap from_bool c.is_on_scratch.ensures)
    c.in_ok-insert.ensures.entries

pub returns-clause-added : goal.returns-clause-added
returns-clause-added c =
    added-values c.self.inside.by_number.entries c.insert.new.self.entries c.self.inside.on_scratch c.args.handle
    c.self.invariant
    (subst (AllBelow c.args.handle.number) (sym c.self.view_is) c.requires.below)
    c.in_ok-insert.ensures.entries
    ∙ ap (λ hs. hs ++ c.args.handle ∷ []) c.self.view_is
