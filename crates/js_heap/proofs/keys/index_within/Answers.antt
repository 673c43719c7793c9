use Rattle.std.proofs.Common.{sym, ◌∙◌, arith}
use Rattle.js_heap.proofs.KeyLemmas.{value-end, index-some, index-none, value-past}
use Rattle.js_heap.proofs.keys.index_within.Goals as goal

pub returns-then-value-ge4294967295 : goal.returns-then-value-ge4294967295
returns-then-value-ge4294967295 c =
    let i = c.loop-unit.invariant in
    index-none c.args.key.now
    (omega (
      arith,
      i.same,
      value-past c.args.key.now c.loop-unit.unit-index c.loop-unit.value c.loop-unit-test.true i.digits,
      c.from.ensures,
    ))

pub returns : goal.returns
returns c =
    let i = c.loop-unit.invariant in
    index-some c.args.key.now c.loop-unit.value
    (sym i.same ∙ value-end c.args.key.now c.loop-unit.unit-index c.loop-unit.value (omega arith)) i.small
