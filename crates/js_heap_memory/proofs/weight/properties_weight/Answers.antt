use Rattle.std.proofs.Common.{arith}
use Rattle.js_heap_memory.proofs.WeightLemmas.{weight-step, default-past}
use Rattle.js_heap_memory.proofs.weight.properties_weight.Goals as goal
use Rattle.js_heap_memory.proofs.weight.properties_weight.Goals.{in-Some, in_default}

pub loop-i-preserved : goal.loop-i-preserved
loop-i-preserved c =
    elim c.match-get.branch [
      | in-Some w ↦ weight-step c.args.properties.now c.loop-i.i w.in-Some.property.now c.loop-i.total c.match-get.total
          w.in-Some.ensures
          (grind arith) c.loop-i.invariant
      | in_default w ↦ absurd
          (default-past c.get.result c.args.properties.now c.loop-i.i w.in_default.not-Some c.get.ensures (grind arith))
    ]
