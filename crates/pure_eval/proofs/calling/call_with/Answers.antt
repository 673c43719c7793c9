use Rattle.std.proofs.Common.{ap, sym, subst, ◌∙◌}
use Rattle.js_heap.specs.BuiltIns.{script_scope}
use Rattle.js_heap.specs.World.{fine}
use Rattle.js_heap.specs.declared.value.Value.TheVariants as values
use Rattle.js_semantics.specs.Evaluation.{call_with_values}
use Rattle.js_semantics.specs.Terms.{settle}
use Rattle.js_machine_nodes.specs.Trees.{tree, program_of}
use Rattle.pure_eval.specs.declared.evaluated.Evaluated.{Evaluated}
use Rattle.pure_eval.specs.Answering.{Answers}
use Rattle.pure_eval.specs.Arguments.{arguments_of}
use Rattle.pure_eval.specs.Calling.{called}
use Rattle.pure_eval.proofs.CallLemmas.{called-fine, called-refused, keeps-to, ends-keep, keeps-behind}
use Rattle.pure_eval.proofs.calling.call_with.Goals as goal

pub returns-in-Ok : goal.returns-in-Ok
returns-in-Ok g c =
    let ts = c.args.names.now in
    let p = program_of ts c.args.table.now in
    let w = g.W.World.world ts c.args.world.now in
    let v = g.W.World.world ts c.make_arguments.new.world in
    let u = g.W.World.world ts c.call_node.new.world in
    let x = settle (tree ts c.args.table.now c.args.node) in
    record {
      answer =
          called-fine p c.args.receiver (arguments_of c.args.arguments.now)
          w v u x c.slice.result.now c.call_node.result
          (c.in-Ok.ensures.made ts ∙ ap (λ xs. fine xs v) (sym c.slice.ensures)) c.call_node.ensures.answer;
      keeps =
          keeps-behind c.call_node.result w v u (c.make_arguments.ensures.keeps ts)
          (ends-keep p script_scope (call_with_values c.args.receiver x c.slice.result.now)
          v u values.Undefined c.call_node.result c.call_node.ensures.world);
    }

pub returns-in-Err : goal.returns-in-Err
returns-in-Err g c =
    let ts = c.args.names.now in
    let p = program_of ts c.args.table.now in
    let w = g.W.World.world ts c.args.world.now in
    let v = g.W.World.world ts c.make_arguments.new.world in
    let x = settle (tree ts c.args.table.now c.args.node) in
    let P : Evaluated → Type 0 = λ e. Answers (called p c.args.receiver (arguments_of c.args.arguments.now) w x) e v in
    record {
      answer =
          subst P (sym c.refused_end.ensures)
          (called-refused p c.args.receiver (arguments_of c.args.arguments.now) w v x c.in-Err.refused
          (c.in-Err.ensures.made ts));
      keeps = keeps-to c.refused_end.result w v (c.make_arguments.ensures.keeps ts);
    }
