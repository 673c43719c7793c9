use Rattle.js_heap_memory.proofs.StartLemmas.{cell-more, cell-of-any}
use Rattle.js_heap_memory.proofs.start.add_holder.Goals as goal

pub returns : goal.returns
returns c =
    λ names. cell-more names c.args.cells.now.items c.push_cell.new.cells.items c.in_ok-cell.cell _
    c.in_ok-push_cell.ensures.pushed
    (cell-of-any names c.in_ok-cell.cell _ c.in_ok-cell.ensures)
