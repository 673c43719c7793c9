use Rattle.std.proofs.Common.{subst}
use Rattle.js_semantics.specs.Evaluation.{answer_of}
use Rattle.js_semantics.specs.Run.{run_of, steps_in}
use Rattle.js_semantics.specs.Terms.{Term}
use Rattle.js_machine_actions.specs.Contexts.{state_of}
use Rattle.js_machine_nodes.specs.Trees.{program_of}
use Rattle.pure_eval.specs.Answering.{Answers, EndsIn}
use Rattle.pure_eval.proofs.calling.run_call.Goals as goal

pub returns-clause-answer : goal.returns-clause-answer
returns-clause-answer g c = λ taken.
    let ts = c.args.code.now.names.now in
    let w = g.W.World.world ts c.args.world.now in
    let P : Term
    → Type 0 = λ x. Answers
    (answer_of
    (steps_in c.args.left (program_of ts c.args.code.now.table.now) c.args.code.now.root
    (run_of x (state_of w c.args.context.now taken))))
    c.run_on.result (g.W.World.world ts c.run_on.new.world) in
    subst P (c.in-Ok.ensures.term ts) (c.run_on.ensures.answer taken)

pub returns-clause-world : goal.returns-clause-world
returns-clause-world g c = λ taken.
    let ts = c.args.code.now.names.now in
    let w = g.W.World.world ts c.args.world.now in
    let P : Term
    → Type 0 = λ x. EndsIn
    (steps_in c.args.left (program_of ts c.args.code.now.table.now) c.args.code.now.root
    (run_of x (state_of w c.args.context.now taken)))
    c.run_on.result (g.W.World.world ts c.run_on.new.world) in
    subst P (c.in-Ok.ensures.term ts) (c.run_on.ensures.world taken)
