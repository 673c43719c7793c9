use Rattle.std.proofs.Common.{[], subst}
use Rattle.js_heap.specs.declared.value.Addr.{Addr}
use Rattle.js_heap.specs.declared.value.Value.TheVariants as values
use Rattle.js_semantics.specs.Evaluation.{budget, call_with_values, evaluated, evaluation_state}
use Rattle.js_semantics.specs.Run.{run_of, steps_in}
use Rattle.js_semantics.specs.Terms.{settle}
use Rattle.js_machine_actions.specs.Contexts.{state_of}
use Rattle.js_machine_nodes.specs.Trees.{tree, program_of}
use Rattle.js_machine_engine.specs.Points.{term_at}
use Rattle.pure_eval.specs.Answering.{Answers, EndsIn}
use Rattle.pure_eval.proofs.CallLemmas.{reduced-answers, reduced-ends, call-answers, call-world}
use Rattle.pure_eval.proofs.calling.call_node.Goals as goal

pub returns-in-Reduced-clause-answer : goal.returns-in-Reduced-clause-answer
returns-in-Reduced-clause-answer g c =
    let ts = c.args.names.now in
    let t = c.args.table.now in
    let w = g.W.World.world ts c.args.world.now in
    let x = settle (tree ts t c.args.node) in
    let P : Addr
    → Type 0 = λ a. Answers
    (evaluated (program_of ts t) a values.Undefined w (call_with_values c.args.receiver x c.args.arguments.now))
    c.run_call.result (g.W.World.world ts c.run_call.new.world) in
    subst P c.script_scope-root.ensures
    (call-answers (program_of ts t) c.script_scope-root.result ts t c.new-stack.result x
    (term_at ts t c.uncover.new.stack c.uncover.new.point)
    c.args.arguments.now c.bare-context.result values.Undefined c.args.receiver w
    (g.W.World.world ts c.run_call.new.world) c.run_call.result c.new-stack.ensures (c.in-Ok.ensures.term ts)
    c.bare-context.ensures
    (reduced-answers budget c.in-Reduced.left (program_of ts t) c.script_scope-root.result
    (run_of (call_with_values c.args.receiver (term_at ts t c.uncover.new.stack c.uncover.new.point)
    c.args.arguments.now)
    (state_of w c.bare-context.result []))
    c.args.receiver c.in-Reduced.value c.args.arguments.now
    (state_of (g.W.World.world ts c.reduce_callee-callee.new.world) c.reduce_callee-callee.new.context [])
    c.run_call.result (g.W.World.world ts c.run_call.new.world)
    (c.in-Reduced.ensures [] c.args.receiver c.args.arguments.now) (c.run_call.ensures.answer [])))

pub returns-in-Reduced-clause-world : goal.returns-in-Reduced-clause-world
returns-in-Reduced-clause-world g c =
    let ts = c.args.names.now in
    let t = c.args.table.now in
    let w = g.W.World.world ts c.args.world.now in
    let x = settle (tree ts t c.args.node) in
    let P : Addr
    → Type 0 = λ a. EndsIn
    (steps_in budget (program_of ts t) a
    (run_of (call_with_values c.args.receiver x c.args.arguments.now) (evaluation_state w values.Undefined)))
    c.run_call.result (g.W.World.world ts c.run_call.new.world) in
    subst P c.script_scope-root.ensures
    (call-world (program_of ts t) c.script_scope-root.result ts t c.new-stack.result x
    (term_at ts t c.uncover.new.stack c.uncover.new.point)
    c.args.arguments.now c.bare-context.result values.Undefined c.args.receiver w
    (g.W.World.world ts c.run_call.new.world) c.run_call.result c.new-stack.ensures (c.in-Ok.ensures.term ts)
    c.bare-context.ensures
    (reduced-ends budget c.in-Reduced.left (program_of ts t) c.script_scope-root.result
    (run_of (call_with_values c.args.receiver (term_at ts t c.uncover.new.stack c.uncover.new.point)
    c.args.arguments.now)
    (state_of w c.bare-context.result []))
    c.args.receiver c.in-Reduced.value c.args.arguments.now
    (state_of (g.W.World.world ts c.reduce_callee-callee.new.world) c.reduce_callee-callee.new.context [])
    c.run_call.result (g.W.World.world ts c.run_call.new.world)
    (c.in-Reduced.ensures [] c.args.receiver c.args.arguments.now) (c.run_call.ensures.world [])))

pub returns-clause-answer : goal.returns-clause-answer
returns-clause-answer g c =
    let ts = c.args.names.now in
    let t = c.args.table.now in
    let w = g.W.World.world ts c.args.world.now in
    let x = settle (tree ts t c.args.node) in
    let P : Addr
    → Type 0 = λ a. Answers
    (evaluated (program_of ts t) a values.Undefined w (call_with_values c.args.receiver x c.args.arguments.now))
    c.in-Ended.end (g.W.World.world ts c.reduce_callee-callee.new.world) in
    subst P c.script_scope-root.ensures
    (call-answers (program_of ts t) c.script_scope-root.result ts t c.new-stack.result x
    (term_at ts t c.uncover.new.stack c.uncover.new.point)
    c.args.arguments.now c.bare-context.result values.Undefined c.args.receiver w
    (g.W.World.world ts c.reduce_callee-callee.new.world) c.in-Ended.end c.new-stack.ensures
    (c.in-Ok.ensures.term ts) c.bare-context.ensures
    (c.in-Ended.ensures [] c.args.receiver c.args.arguments.now).0)

pub returns-clause-world : goal.returns-clause-world
returns-clause-world g c =
    let ts = c.args.names.now in
    let t = c.args.table.now in
    let w = g.W.World.world ts c.args.world.now in
    let x = settle (tree ts t c.args.node) in
    let P : Addr
    → Type 0 = λ a. EndsIn
    (steps_in budget (program_of ts t) a
    (run_of (call_with_values c.args.receiver x c.args.arguments.now) (evaluation_state w values.Undefined)))
    c.in-Ended.end (g.W.World.world ts c.reduce_callee-callee.new.world) in
    subst P c.script_scope-root.ensures
    (call-world (program_of ts t) c.script_scope-root.result ts t c.new-stack.result x
    (term_at ts t c.uncover.new.stack c.uncover.new.point)
    c.args.arguments.now c.bare-context.result values.Undefined c.args.receiver w
    (g.W.World.world ts c.reduce_callee-callee.new.world) c.in-Ended.end c.new-stack.ensures
    (c.in-Ok.ensures.term ts) c.bare-context.ensures
    (c.in-Ended.ensures [] c.args.receiver c.args.arguments.now).1)
