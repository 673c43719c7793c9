use Rattle.std.proofs.Common.{ap}
use Rattle.js_heap.specs.declared.cell.Cell.TheVariants.{Text}
use Rattle.js_heap_memory.proofs.StartLemmas.{cell-more}
use Rattle.js_heap_memory.proofs.start.add_literal.Goals as goal

pub returns : goal.returns
returns c =
    λ names. cell-more names c.args.cells.now.items c.push_cell.new.cells.items _ _ c.in_ok-push_cell.ensures.pushed
    (record { cell = ap (λ u. Text u) c.in_ok-units.ensures; within = tt })
