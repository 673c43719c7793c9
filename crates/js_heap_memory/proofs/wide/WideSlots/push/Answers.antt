use Rattle.std.proofs.Common.{arith}
use Rattle.js_heap_memory.proofs.wide.WideSlots.push.Goals as goal

pub invariant_of-self-2 : goal.invariant_of-self-2
invariant_of-self-2 c =
    let e = rw (c.unwrap.ensures, c.reserve.ensures.items) at c.push.ensures.items in
    rw e (c.in_ok-enter.ensures.entered c.self.inside.items.items (grind arith) c.self.invariant)
