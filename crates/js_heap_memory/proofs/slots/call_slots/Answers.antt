use Rattle.js_heap_memory.proofs.ScopeLemmas.{call-slots}
use Rattle.js_heap_memory.proofs.slots.call_slots.Goals as goal

pub returns : goal.returns
returns c =
    λ names. call-slots names c.args.parameters.now c.args.arguments.now c.in_ok-slots.slots.items
    c.extend_from_slice.new.self.items c.args.others.now c.in_ok-slots.ensures
    c.in_ok-extend_from_slice.ensures.items
