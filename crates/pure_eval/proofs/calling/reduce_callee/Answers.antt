use Rattle.std.proofs.Common.{sym, ◌∙◌, arith}
use Rattle.js_machine_engine.proofs.RunLemmas.{going}
use Rattle.pure_eval.proofs.CallLemmas.{callee-first, callee-next, callee-ends, callee-spent, callee-reduced}
use Rattle.pure_eval.proofs.EvaluatedLemmas.{no-end}
use Rattle.pure_eval.proofs.calling.reduce_callee.Goals as goal

pub loop-left-init : goal.loop-left-init
loop-left-init g c =
    callee-first c.args.code.now.names.now c.args.code.now.table.now c.args.code.now.root c.args.stack.now
    c.args.point.now
    (g.W.World.world c.args.code.now.names.now c.args.world.now) c.args.context.now c.args.most c.requires.stands

pub step-stepped-requires-clause-going : goal.step-stepped-requires-clause-going
step-stepped-requires-clause-going g c = going c.loop-left.point c.in_default.not-Done

pub returns-in-Done : goal.returns-in-Done
returns-in-Done g c =
    callee-reduced c.args.code.now.names.now c.args.code.now.table.now c.args.code.now.root c.args.stack.now
    c.loop-left.stack c.args.point.now
    c.loop-left.point
    (g.W.World.world c.args.code.now.names.now c.args.world.now)
    (g.W.World.world c.args.code.now.names.now c.loop-left.world)
    c.args.context.now c.loop-left.context c.args.most c.loop-left.left c.in-Done.value c.loop-left.invariant
    c.in-Done.is

pub returns-in-Some : goal.returns-in-Some
returns-in-Some g c =
    callee-ends c.args.code.now.names.now c.args.code.now.table.now c.args.code.now.root c.args.stack.now
    c.loop-left.stack
    c.step-stepped.new.stack c.args.point.now c.loop-left.point c.step-stepped.new.point
    (g.W.World.world c.args.code.now.names.now c.args.world.now)
    (g.W.World.world c.args.code.now.names.now c.loop-left.world)
    (g.W.World.world c.args.code.now.names.now c.step-stepped.new.world)
    c.args.context.now c.loop-left.context c.step-stepped.new.context c.args.most c.loop-left.left c.step-stepped.result
    c.in-Some.end c.loop-left.invariant
    (omega (arith, c.loop-left-test.true)) (going c.loop-left.point c.in_default.not-Done)
    c.step-stepped.ensures.told (sym c.end_with.ensures ∙ c.in-Some.is)

pub loop-left-preserved : goal.loop-left-preserved
loop-left-preserved g c =
    callee-next c.args.code.now.names.now c.args.code.now.table.now c.args.code.now.root c.args.stack.now
    c.loop-left.stack
    c.step-stepped.new.stack c.args.point.now c.loop-left.point c.step-stepped.new.point
    (g.W.World.world c.args.code.now.names.now c.args.world.now)
    (g.W.World.world c.args.code.now.names.now c.loop-left.world)
    (g.W.World.world c.args.code.now.names.now c.step-stepped.new.world)
    c.args.context.now c.loop-left.context c.step-stepped.new.context c.args.most c.loop-left.left c.step-stepped.result
    c.loop-left.invariant
    (omega (arith, c.loop-left-test.true)) (going c.loop-left.point c.in_default.not-Done)
    c.step-stepped.ensures.told c.step-stepped.ensures.stands
    (sym c.end_with.ensures ∙ no-end c.end_with.result c.in_default-end_with.not-Some)

pub loop-left-preserved-in_default-end_with : goal.loop-left-preserved-in_default-end_with
loop-left-preserved-in_default-end_with g c =
    callee-next c.args.code.now.names.now c.args.code.now.table.now c.args.code.now.root c.args.stack.now
    c.loop-left.stack
    c.step-stepped.new.stack c.args.point.now c.loop-left.point c.step-stepped.new.point
    (g.W.World.world c.args.code.now.names.now c.args.world.now)
    (g.W.World.world c.args.code.now.names.now c.loop-left.world)
    (g.W.World.world c.args.code.now.names.now c.step-stepped.new.world)
    c.args.context.now c.loop-left.context c.step-stepped.new.context c.args.most c.loop-left.left c.step-stepped.result
    c.loop-left.invariant
    (omega (arith, c.loop-left-test.true)) (going c.loop-left.point c.in_default.not-Done)
    c.step-stepped.ensures.told c.step-stepped.ensures.stands
    (sym c.end_with.ensures ∙ no-end c.end_with.result c.in_default-end_with.not-Some)

pub returns : goal.returns
returns g c =
    callee-spent c.args.code.now.names.now c.args.code.now.table.now c.args.code.now.root c.args.stack.now
    c.loop-left.stack c.args.point.now
    c.loop-left.point
    (g.W.World.world c.args.code.now.names.now c.args.world.now)
    (g.W.World.world c.args.code.now.names.now c.loop-left.world)
    c.args.context.now c.loop-left.context c.args.most c.loop-left.left c.loop-left.invariant
    (omega (arith, c.loop-left-test.false))
