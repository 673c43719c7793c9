use Rattle.std.proofs.Common.{arith}
use Rattle.js_heap_memory.proofs.WeightLemmas.{without-same, without-less}
use Rattle.js_heap_memory.proofs.change.remove_in.Goals as goal

pub returns-then-len-before-clause-value : goal.returns-then-len-before-clause-value
returns-then-len-before-clause-value c =
    without-same c.args.properties.now c.remove.new.self c.args.key.now c.args.units_left c.remove.ensures (grind arith)

pub returns-clause-value : goal.returns-clause-value
returns-clause-value c =
    without-less c.args.properties.now c.remove.new.self c.args.key.now c.args.units_left c.in_ok-more.more
    c.remove.ensures
    (grind arith) (grind arith)
