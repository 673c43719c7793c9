use Rattle.js_machine_compiler.proofs.NameLemmas.{texts_step}
use Rattle.js_machine_compiler.proofs.names.parameters_of.Goals as goal
use Rattle.js_heap_memory.proofs.StartLemmas.{goes-then}

pub loop-text-preserved : goal.loop-text-preserved
loop-text-preserved c = record {
  goes_on =
      goes-then c.args.names.now c.loop-text.names c.number_of.new.names c.loop-text.invariant.goes_on
      c.in_ok-number_of.ensures.goes_on;
  are =
      texts_step c.loop-text.names c.number_of.new.names c.loop-text.parameters.items c.push.new.self.items
      c.in_ok-number_of.field-0 c.as_slice-text-items.result.now c.loop-text.text-index c.text-item.result
      c.loop-text.invariant.are c.in_ok-number_of.ensures.goes_on c.in_ok-number_of.ensures.known
      c.in_ok-push.ensures.items c.loop-text-test.true c.text-item.is;
}
