use Rattle.std.proofs.Common.{sym, ◌∙◌, arith}
use Rattle.js_machine_engine.proofs.FirstKidLemmas.{first-kid}
use Rattle.js_machine_engine.proofs.stages.kid_within.Goals as goal

pub returns-then-place-end : goal.returns-then-place-end
returns-then-place-end c =
    c.copied.ensures ∙ c.get.ensures ∙ sym (first-kid c.args.table.now c.args.place c.args.end (grind arith))
