use Rattle.std.proofs.Common.{arith}
use Rattle.js_heap_memory.proofs.EarlierLemmas.{before-mark, all-before}
use Rattle.js_heap_memory.proofs.overlay.Scratch.ends_at.Goals as goal

pub returns-then-mark-self-clause-within : goal.returns-then-mark-self-clause-within
returns-then-mark-self-clause-within c =
    all-before _ c.args.self.now c.args.mark.now c.self.inside.cells_left c.self.view_is c.self.invariant.0

pub returns-then-self-mark-clause-within : goal.returns-then-self-mark-clause-within
returns-then-self-mark-clause-within c =
    all-before _ c.args.self.now c.args.mark.now c.self.inside.cells_left c.self.view_is c.self.invariant.0

pub returns-clause-within : goal.returns-clause-within
returns-clause-within c =
    before-mark _ c.args.self.now _ c.args.mark.now c.self.inside.earlier c.self.inside.earlier_ends c.self.view_is
    c.mark.view_is c.self.invariant.1
    (grind arith) (grind arith)
