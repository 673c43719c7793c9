use Rattle.std.proofs.Common.{refl, rules}
use Rattle.js_semantics.specs.Run.{placed_scripts}
use Rattle.js_machine_terms.specs.Views.{terms_view}
use Rattle.js_heap_memory.specs.Heaps.{heap_world}
use Rattle.js_machine_engine.specs.Points.{term_at}
use Rattle.js_machine_compiler.proofs.NameLemmas.{goes_on_same}
use Rattle.js_machine.proofs.StartLemmas.{starts-so}
use Rattle.js_machine.proofs.machine.Machine.of_terms.Goals as goal

pub returns : goal.returns
returns c =
    let p = c.in_ok-names.field-0 in
    let h = c.in_ok-names.ensures in
    let u = term_at p.names p.code.table c.uncover.new.stack c.uncover.new.point in
    record {
      going = refl;
      program = h.code.program p.names (goes_on_same p.names);
      run =
          starts-so (terms_view c.args.scripts.now) c.args.input.items p.names p.code.table p.code.root u
          (heap_world p.names p.heap) c.in_ok-context.context c.new-stack.result h.code c.new-stack.ensures
          (c.in_ok-uncover.ensures.term p.names) h.cells c.in_ok-context.ensures;
    }

pub invariant_of-machine : goal.invariant_of-machine
invariant_of-machine c =
    let h = c.in_ok-names.ensures in
    record {
      table = h.code.table;
      places = h.code.places;
      functions = h.code.functions;
      scripts = record { terms = placed_scripts (terms_view c.args.scripts.now); program = h.code.program };
      stands = search rules;
    }
