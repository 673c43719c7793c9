use Rattle.std.proofs.Common.{refl}
use Rattle.js_heap_memory.proofs.StartLemmas.{cell-more, cell-of-any, cells-then}
use Rattle.js_heap_memory.proofs.start.add_scopes.Goals as goal

pub returns : goal.returns
returns c =
    let names = c.args.names.now in
    let global = cell-more names c.args.cells.now.items c.push_cell.new.cells.items c.in_ok-global.global _
    c.in_ok-push_cell.ensures.pushed
    (c.in_ok-global.ensures _ refl) in
    let script = cell-more names c.push_cell.new.cells.items c.push_cell-2.new.cells.items c.script_scope.result _
    c.in_ok-push_cell-2.ensures.pushed
    (cell-of-any names c.script_scope.result _ (c.script_scope.ensures _ refl)) in
    let message = cell-more names c.push_cell-2.new.cells.items c.push_cell-3.new.cells.items c.in_ok-message.message _
    c.in_ok-push_cell-3.ensures.pushed
    (cell-of-any names c.in_ok-message.message _ (c.in_ok-message.ensures _ refl)) in
    let error = cell-more names c.push_cell-3.new.cells.items c.push_cell-4.new.cells.items c.in_ok-error.error _
    c.in_ok-push_cell-4.ensures.pushed
    (cell-of-any names c.in_ok-error.error _ (c.in_ok-error.ensures _ refl)) in
    cells-then _ _ _ _ _ _ global (cells-then _ _ _ _ _ _ script (cells-then _ _ _ _ _ _ message error))
