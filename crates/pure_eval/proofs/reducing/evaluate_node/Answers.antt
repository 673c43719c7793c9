use Rattle.std.proofs.Common.{[]}
use Rattle.js_semantics.specs.Terms.{settle}
use Rattle.js_machine_nodes.specs.Trees.{tree, program_of}
use Rattle.js_machine_engine.specs.Points.{term_at}
use Rattle.pure_eval.proofs.EvaluatedLemmas.{node-answers, node-world}
use Rattle.pure_eval.proofs.reducing.evaluate_node.Goals as goal

pub returns-in-Ok : goal.returns-in-Ok
returns-in-Ok g c =
    let ts = c.args.names.now in
    let t = c.args.table.now in
    record {
      answer =
          node-answers (program_of ts t) c.args.scope ts t c.new-stack.result (settle (tree ts t c.args.node))
          (term_at ts t c.uncover.new.stack c.uncover.new.point) c.bare-context.result c.args.receiver
          (g.W.World.world ts c.args.world.now) (g.W.World.world ts c.run_on.new.world)
          c.run_on.result c.new-stack.ensures (c.in-Ok.ensures.term ts) c.bare-context.ensures
          (c.run_on.ensures.answer []);
      world =
          node-world (program_of ts t) c.args.scope ts t c.new-stack.result (settle (tree ts t c.args.node))
          (term_at ts t c.uncover.new.stack c.uncover.new.point) c.bare-context.result c.args.receiver
          (g.W.World.world ts c.args.world.now) (g.W.World.world ts c.run_on.new.world)
          c.run_on.result c.new-stack.ensures (c.in-Ok.ensures.term ts) c.bare-context.ensures
          (c.run_on.ensures.world []);
    }
