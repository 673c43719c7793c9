use Rattle.std.proofs.Common.{arith}
use Rattle.js_heap_memory.proofs.MakeLemmas.{made-fit}
use Rattle.js_heap_memory.proofs.EarlierLemmas.{earlier-more}
use Rattle.js_heap_memory.proofs.OverLemmas.{made-over}
use Rattle.js_heap_memory.proofs.overlay.OverlayWorld.make.Goals as goal

pub invariant_of-self-2 : goal.invariant_of-self-2
invariant_of-self-2 c = (
  made-fit c.self.inside.cells.items c.push_cell.new.cells.items c.args.cell c.self.inside.ends c.self.inside.cells_left
      c.self.invariant.0
      (grind arith) c.in_ok-push_cell.ensures.pushed (grind arith),
  earlier-more c.self.inside.cells.items c.push_cell.new.cells.items c.args.cell c.self.inside.start
      c.self.inside.earlier_ends c.in_ok-push_cell.ensures.pushed c.self.invariant.1,
)

pub returns-clause-made : goal.returns-clause-made
returns-clause-made c =
    made-over _ c.args.self.now c.push_cell.new.cells.items c.args.cell c.weight.result c.in_ok-left.left
    c.len-at.result c.self.view_is c.in_ok-push_cell.ensures.pushed c.in_ok-left.ensures c.weight.ensures
    (grind arith) (grind arith)
