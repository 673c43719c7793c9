use Rattle.std.proofs.Common.{sym, subst}
use Rattle.js_semantics.specs.Terms.{settle}
use Rattle.js_machine_nodes.specs.Trees.{tree, program_of}
use Rattle.pure_eval.specs.declared.work.Work.{Work}
use Rattle.pure_eval.specs.Answering.{Answers}
use Rattle.pure_eval.specs.Calling.{worked}
use Rattle.pure_eval.proofs.CallLemmas.{ends-keep}
use Rattle.pure_eval.proofs.session.end_of_work.Goals as goal

pub returns-in-Expression : goal.returns-in-Expression
returns-in-Expression g c =
    let ts = c.args.names.now in
    let t = c.args.table.now in
    let w = g.W.World.world ts c.args.world.now in
    let v = g.W.World.world ts c.evaluate_node.new.world in
    let x = settle (tree ts t c.args.node) in
    let P : Work → Type 0 = λ work. Answers (worked (program_of ts t) work w x) c.evaluate_node.result v in
    record {
      answer = subst P (sym c.in-Expression.is) c.evaluate_node.ensures.answer;
      keeps =
          ends-keep (program_of ts t)
          c.in-Expression.scope x w v c.in-Expression.receiver c.evaluate_node.result c.evaluate_node.ensures.world;
    }

pub returns-in-Call : goal.returns-in-Call
returns-in-Call g c =
    let ts = c.args.names.now in
    let t = c.args.table.now in
    let w = g.W.World.world ts c.args.world.now in
    let v = g.W.World.world ts c.call_with.new.world in
    let x = settle (tree ts t c.args.node) in
    let P : Work → Type 0 = λ work. Answers (worked (program_of ts t) work w x) c.call_with.result v in
    record {
      answer = subst P (sym c.in-Call.is) c.call_with.ensures.answer;
      keeps = c.call_with.ensures.keeps;
    }
