use Rattle.std.proofs.Common.{sym, ◌∙◌, arith}
use Rattle.pure_eval.proofs.EvaluatedLemmas.{end-answers, end-ends, no-end, runs-on, spent-answers, spent-ends}
use Rattle.pure_eval.proofs.reducing.run_on.Goals as goal

pub returns-in-Some : goal.returns-in-Some
returns-in-Some g c = record {
  answer =
      λ taken. end-answers c.step_until-ran.result.steps c.loop-left.left c.args.most _ c.args.code.now.root _ _
      c.step_until-ran.result.why _
      _ c.in-Some.end
      (c.loop-left.invariant.runs taken) c.step_until-ran.ensures.within (c.step_until-ran.ensures.told taken)
      (sym c.end_of.ensures ∙ c.in-Some.is);
  world =
      λ taken. end-ends c.step_until-ran.result.steps c.loop-left.left c.args.most _ c.args.code.now.root _ _
      c.step_until-ran.result.why _ _
      c.in-Some.end
      (c.loop-left.invariant.runs taken) c.step_until-ran.ensures.within (c.step_until-ran.ensures.told taken)
      (sym c.end_of.ensures ∙ c.in-Some.is);
}

pub loop-left-preserved-in_default : goal.loop-left-preserved-in_default
loop-left-preserved-in_default g c =
    runs-on c.args.code.now.names.now c.args.code.now.table.now c.args.code.now.root c.args.stack.now
    c.loop-left.stack c.step_until-ran.new.stack
    c.args.point.now c.loop-left.point c.step_until-ran.new.point _ _ _ c.args.context.now c.loop-left.context
    c.step_until-ran.new.context c.args.most c.loop-left.left c.step_until-ran.result.steps c.step_until-ran.result.why
    c.loop-left.invariant c.step_until-ran.ensures.within c.step_until-ran.ensures.told c.step_until-ran.ensures.stands
    (sym c.end_of.ensures ∙ no-end c.end_of.result c.in_default.not-Some)

pub loop-left-preserved : goal.loop-left-preserved
loop-left-preserved g c =
    runs-on c.args.code.now.names.now c.args.code.now.table.now c.args.code.now.root c.args.stack.now
    c.loop-left.stack c.step_until-ran.new.stack
    c.args.point.now c.loop-left.point c.step_until-ran.new.point _ _ _ c.args.context.now c.loop-left.context
    c.step_until-ran.new.context c.args.most c.loop-left.left c.step_until-ran.result.steps c.step_until-ran.result.why
    c.loop-left.invariant c.step_until-ran.ensures.within c.step_until-ran.ensures.told c.step_until-ran.ensures.stands
    (sym c.end_of.ensures ∙ no-end c.end_of.result c.in_default.not-Some)

pub returns : goal.returns
returns g c = record {
  answer =
      λ taken. spent-answers c.loop-left.left c.args.most _ c.args.code.now.root _ c.args.code.now.names.now
      c.args.code.now.table.now
      c.loop-left.stack c.loop-left.point _ c.end_at.result
      (c.loop-left.invariant.runs taken) (omega (arith, c.loop-left-test.false))
      c.loop-left.invariant.stands.at c.end_at.ensures;
  world =
      λ taken. spent-ends c.loop-left.left c.args.most _ c.args.code.now.root _ _ c.loop-left.point _ c.end_at.result
      (c.loop-left.invariant.runs taken) (omega (arith, c.loop-left-test.false)) c.end_at.ensures;
}
