use Rattle.js_machine_compiler.proofs.NameLemmas.{bindings_step}
use Rattle.js_machine_compiler.proofs.names.slots_of.Goals as goal
use Rattle.js_heap_memory.proofs.StartLemmas.{goes-then}

pub loop-binding-preserved : goal.loop-binding-preserved
loop-binding-preserved c = record {
  goes_on =
      goes-then c.args.names.now c.loop-binding.names c.slot_of.new.names c.loop-binding.invariant.goes_on
      c.in_ok-slot_of.ensures.goes_on;
  are =
      bindings_step c.loop-binding.names c.slot_of.new.names c.loop-binding.slots.items c.push.new.self.items
      c.in_ok-slot_of.field-0 c.slice-binding-items.result.now c.loop-binding.binding-index c.binding-item.result
      c.loop-binding.invariant.are c.in_ok-slot_of.ensures.goes_on c.in_ok-slot_of.ensures.slot
      c.in_ok-push.ensures.items c.loop-binding-test.true c.binding-item.is;
}
