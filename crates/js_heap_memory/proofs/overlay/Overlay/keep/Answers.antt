use Rattle.std.proofs.Common.{arith}
use Rattle.js_heap_memory.specs.declared.stored.Stored.TheVariants as stored
use Rattle.js_heap_memory.proofs.EarlierLemmas.{kept-over, kept-fit, earlier-more}
use Rattle.js_heap_memory.proofs.overlay.Overlay.keep.Goals as goal

pub invariant_of-self-2 : goal.invariant_of-self-2
invariant_of-self-2 c = (
  kept-fit c.self.inside.cells.items c.push_cell.new.cells.items c.args.source c.self.inside.ends
      c.self.inside.cells_left c.self.invariant.0 c.in_ok-push_cell.ensures.pushed
      (grind (arith, c.self.invariant.0.places)),
  earlier-more c.self.inside.cells.items c.push_cell.new.cells.items (stored.Text c.args.source)
      c.self.inside.start c.self.inside.earlier_ends c.in_ok-push_cell.ensures.pushed c.self.invariant.1,
)

pub returns-clause-source : goal.returns-clause-source
returns-clause-source c =
    kept-over _ c.args.self.now c.push_cell.new.cells.items c.args.source c.in_ok-left.left c.len-at.result
    c.self.view_is c.in_ok-push_cell.ensures.pushed
    (grind arith) (grind arith)
