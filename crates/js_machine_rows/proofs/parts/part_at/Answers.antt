use Rattle.std.proofs.Common.{arith, ◌∙◌}
use Rattle.js_machine_rows.proofs.PartLemmas.{part-within, part-past}
use Rattle.js_machine_rows.proofs.parts.part_at.Goals as goal

pub returns-then-at-to : goal.returns-then-at-to
returns-then-at-to c =
    c.kid_at.ensures ∙ part-within c.args.table.now.kids.items c.args.from c.args.to c.args.index (omega arith)

pub returns-else-at-to : goal.returns-else-at-to
returns-else-at-to c = part-past c.args.table.now.kids.items c.args.from c.args.to c.args.index (omega arith)
