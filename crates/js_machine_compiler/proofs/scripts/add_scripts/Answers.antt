use Rattle.std.proofs.Common.{refl}
use Rattle.js_machine_compiler.proofs.TermSteps.{items_none, items_go_on}
use Rattle.js_machine_compiler.proofs.ScriptLemmas.{continues_twice, script_step}
use Rattle.js_machine_compiler.proofs.scripts.add_scripts.Goals as goal

pub returns-in-None-clause-trees : goal.returns-in-None-clause-trees
returns-in-None-clause-trees c =
    items_none c.add_script.new.names c.add_script.new.table c.args.scripts.now c.args.scripts.now c.loop-i.i
    c.index-scripts-i.result c.in_ok-root.field-0 c.loop-i-test.true c.index-scripts-i.is c.in-None.is
    c.in_ok-root.ensures.tree refl

pub loop-i-preserved : goal.loop-i-preserved
loop-i-preserved c = record {
  continues =
      continues_twice c.args.names.now c.loop-i.names c.add_script.new.names c.args.table.now c.loop-i.table
      c.add_script.new.table c.loop-i.invariant.continues c.in_ok-root.ensures.continues;
  trees =
      items_go_on c.loop-i.names c.add_script.new.names c.loop-i.table c.add_script.new.table c.loop-i.roots.items
      c.push.new.self.items c.args.scripts.now c.loop-i.i c.index-scripts-i.result c.in-Some.root
      c.in_ok-root.field-0 c.loop-i.invariant.trees c.in_ok-root.ensures.continues.names
      c.in_ok-root.ensures.continues.entries c.in-Some.is c.in_ok-root.ensures.tree
      c.in_ok-push-in-Some.ensures.items c.loop-i-test.true c.index-scripts-i.is;
  program =
      script_step c.loop-i.names c.add_script.new.names c.loop-i.table c.add_script.new.table c.args.scripts.now
      c.loop-i.i c.in_ok-number.number c.in-Some.root c.index-scripts-i.result c.in_ok-root.field-0
      c.loop-i.invariant.program c.in_ok-root.ensures.continues c.in-Some.is c.in_ok-root.ensures.tree
      c.in_ok-root.ensures.source c.in_ok-number.ensures c.loop-i-test.true c.index-scripts-i.is;
}
