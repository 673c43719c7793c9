use Rattle.std.proofs.Common.{arith}
use Rattle.js_heap_memory.proofs.BindLemmas.{value-fit}
use Rattle.js_heap_memory.proofs.EarlierLemmas.{earlier-value}
use Rattle.js_heap_memory.proofs.OverLemmas.{bind-over}
use Rattle.js_heap_memory.proofs.overlay.OverlayWorld.bind_at.Goals as goal

pub invariant_of-self : goal.invariant_of-self
invariant_of-self c = (
  rw c.value_in_cells.ensures
      (value-fit c.self.inside.cells.items c.self.inside.ends c.self.inside.cells_left c.in-Scratch.i c.args.place
      c.args.value c.self.invariant.0),
  earlier-value c.self.inside.cells.items c.value_in_cells.new.cells.items c.in-Scratch.i c.self.inside.start
      c.args.place c.self.inside.earlier_ends c.args.value c.value_in_cells.ensures
      (grind arith) c.self.invariant.1,
)

pub returns-else-i-self-clause-written : goal.returns-else-i-self-clause-written
returns-else-i-self-clause-written c =
    bind-over c.args.names.now _ c.args.self.now c.value_in_cells.new.cells.items c.in-Scratch.i c.args.place
    c.args.name.number c.args.value c.args.scope c.self.view_is c.in-Scratch.is c.len.ensures.differ c.requires
    (grind arith) c.value_in_cells.ensures
