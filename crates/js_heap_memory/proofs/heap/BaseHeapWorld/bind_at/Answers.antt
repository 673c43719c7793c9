use Rattle.js_heap_memory.proofs.BindLemmas.{bind-heap, value-fit}
use Rattle.js_heap_memory.proofs.heap.BaseHeapWorld.bind_at.Goals as goal

pub invariant_of-self : goal.invariant_of-self
invariant_of-self c =
    rw c.value_in_cells.ensures
    (value-fit c.self.inside.cells.items c.self.inside.ends c.self.inside.cells_left c.in-Base.i c.args.place
    c.args.value c.self.invariant)

pub returns-in-Base-clause-written : goal.returns-in-Base-clause-written
returns-in-Base-clause-written c =
    bind-heap c.args.names.now _ c.args.self.now c.value_in_cells.new.cells.items c.in-Base.i c.args.place
    c.args.name.number c.args.value c.args.scope c.self.view_is c.in-Base.is c.len.ensures.differ c.requires
    c.value_in_cells.ensures
