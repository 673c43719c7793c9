use Rattle.js_heap_memory.proofs.StartLemmas.{cell-more}
use Rattle.js_heap_memory.proofs.start.add.Goals as goal

pub returns : goal.returns
returns c =
    cell-more c.args.names.now c.args.cells.now.items c.push_cell.new.cells.items c.in_ok-cell.cell _
    c.in_ok-push_cell.ensures.pushed c.in_ok-cell.ensures
