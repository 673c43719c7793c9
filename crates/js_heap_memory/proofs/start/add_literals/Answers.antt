use Rattle.std.proofs.Common.{arith}
use Rattle.js_heap_memory.proofs.StartLemmas.{literals-step, literals-end}
use Rattle.js_heap_memory.proofs.start.add_literals.Goals as goal

pub loop-i-preserved : goal.loop-i-preserved
loop-i-preserved c = λ names.
    literals-step names _ c.loop-i.cells.items c.add_literal.new.cells.items c.args.literals.now c.loop-i.i
    c.as_slice.result.now
    (c.loop-i.invariant names) (c.in_ok-add_literal.ensures names) c.loop-i-test.true (grind arith)

pub returns : goal.returns
returns c =
    λ names. literals-end names c.args.cells.now.items c.loop-i.cells.items c.args.literals.now c.loop-i.i
    (c.loop-i.invariant names) (grind arith)
