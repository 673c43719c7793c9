use Rattle.std.proofs.Common.{◌-◌, arith}
use Rattle.js_heap_memory.proofs.IndexLemmas.{popped}
use Rattle.js_heap_memory.proofs.names.NameTable.pop.Goals as goal

pub invariant_of-self : goal.invariant_of-self
invariant_of-self c =
    popped c.pop.new.self c.self.inside.texts c.self.inside.index c.remove.new.self (c.len-len.result - 1)
    c.text.result.now c.self.invariant (omega (arith, c.len-len.ensures, c.if-len-gt0.true)) c.text.ensures
    c.pop.ensures c.remove.ensures.updates
