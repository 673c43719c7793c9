use Rattle.std.proofs.Common.{arith}
use Rattle.js_heap_memory.proofs.StartLemmas.{start-fit}
use Rattle.js_heap_memory.proofs.heap.BaseHeap.start.Goals as goal

pub invariant_of-result : goal.invariant_of-result
invariant_of-result c =
    rw c.len.ensures.len
    (start-fit c.args.names.now c.new-cells.result.items c.add_built_ins.new.cells.items c.add_literals.new.cells.items
    c.args.literals.now c.new-cells.ensures.items c.in_ok-add_built_ins.ensures
    (c.in_ok-add_literals.ensures c.args.names.now) (grind arith))
