use Rattle.std.proofs.Common.{arith, sym}
use Rattle.js_heap_memory.specs.Changes.{change_of}
use Rattle.js_heap_memory.proofs.HeapLemmas.{weighed-at, weighed-past}
use Rattle.js_heap_memory.proofs.WithinLemmas.{within-set}
use Rattle.js_heap_memory.proofs.EarlierLemmas.{set-others}
use Rattle.js_heap_memory.proofs.change.change_in.Goals as goal

pub returns-then-at-len-clause-value : goal.returns-then-at-len-clause-value
returns-then-at-len-clause-value c = λ names d.
    weighed-at names c.args.cells.now.items c.args.at c.index_mut.result.now c.change_cell.new.cell
    (change_of names c.args.change) c.args.units_left c.change_cell.result (grind arith)
    (sym c.index_mut.ensures.value) (c.change_cell.ensures.value names d)

pub returns-then-at-len-clause-within : goal.returns-then-at-len-clause-within
returns-then-at-len-clause-within c = λ end h k.
    within-set end c.args.cells.now.items c.args.at c.index_mut.result.now c.change_cell.new.cell (grind arith)
    (sym c.index_mut.ensures.value) (c.change_cell.ensures.within end h) k

pub returns-else-at-len-clause-value : goal.returns-else-at-len-clause-value
returns-else-at-len-clause-value c =
    λ names d. weighed-past names c.args.cells.now.items c.args.at (change_of names c.args.change) c.args.units_left
    (grind arith)

pub returns-then-at-len-clause-others : goal.returns-then-at-len-clause-others
returns-then-at-len-clause-others c =
    λ place h. set-others place c.args.cells.now.items c.args.at c.change_cell.new.cell h
