use Rattle.std.proofs.Common.{ap, sym, ◌∙◌, arith}
use Rattle.js_machine_engine.specs.Running.{why_of}
use Rattle.js_machine_engine.specs.Stepping.{told_by}
use Rattle.js_machine_engine.proofs.RunLemmas.{going, goes-none, stopped-told, runs-init, none-passed, done-runs, stop-runs, stop-stands, stop-counted, stop-asked, stop-passed, next-runs, more-left, more-passed, asked-so, passed-but-last, first-passed}
use Rattle.js_machine_engine.proofs.PrintLemmas.{none-silent, more-silent, last-silent, first-silent, silent-but-last, stop-prints, next-silent}
use Rattle.js_machine_engine.proofs.run.run_on.Goals as goal

pub loop-steps-init : goal.loop-steps-init
loop-steps-init g c = record {
  run =
      runs-init c.args.code.now.names.now c.args.code.now.table.now c.args.code.now.root c.args.stack.now
      c.args.point.now
      (g.W.World.world c.args.code.now.names.now c.args.world.now) c.args.context.now c.requires.stands;
  passed = λ taken. none-passed (g.H.StopTest.stops c.args.host.now) _ _ _;
  silent = λ taken. none-silent _ _ _;
}

pub returns-in-Done : goal.returns-in-Done
returns-in-Done g c =
    let i = c.loop-steps.invariant in
    record {
      told =
          λ taken. done-runs c.args.code.now.names.now c.args.code.now.table.now c.args.code.now.root c.args.stack.now
          c.args.point.now
          (g.W.World.world c.args.code.now.names.now c.args.world.now)
          c.args.context.now c.loop-steps.steps c.loop-steps.stack c.loop-steps.point
          (g.W.World.world c.args.code.now.names.now c.loop-steps.world)
          c.loop-steps.context c.in-Done.value i.run (sym c.get.ensures ∙ c.in-Done.is) taken;
      left = i.run.left;
      stands = tt;
      within = omega (arith, c.loop-steps-test.true);
      counted = tt;
      asked = λ taken. tt;
      passed = λ taken. first-passed _ _ _ _ _ (i.passed taken);
      values = λ taken. last-silent c.loop-steps.steps _ _ _ (i.silent taken);
      silent = λ taken. first-silent c.loop-steps.steps _ _ _ (i.silent taken);
    }

pub returns-then-is_stop : goal.returns-then-is_stop
returns-then-is_stop g c =
    let ts = c.args.code.now.names.now in
    let t = c.args.code.now.table.now in
    let w = g.W.World.world ts c.args.world.now in
    let v = g.W.World.world ts c.loop-steps.world in
    let x = g.W.World.world ts c.advance-went.new.world in
    let stepped = told_by c.advance-went.result c.advance-went.new.told in
    let i = c.loop-steps.invariant in
    let going_on = going c.loop-steps.point (λ v e. c.in_default.not-Done v (c.get.ensures ∙ e)) in
    let told = stopped-told c.advance-went.result c.advance-went.new.told (sym c.is_stop.ensures ∙ c.if-is_stop.true) in
    let y = ap why_of told ∙ c.why_of.ensures in
    record {
      told =
          λ taken. stop-runs ts t c.args.code.now.root c.args.stack.now c.args.point.now w c.args.context.now
          c.loop-steps.steps
          c.loop-steps.stack c.advance-went.new.stack c.loop-steps.point c.advance-went.new.point v x
          c.loop-steps.context c.advance-went.new.context stepped c.why_of.result i.run going_on y
          taken
          (c.advance-went.ensures.told taken);
      left =
          more-left ts t c.args.code.now.root c.args.stack.now c.args.point.now w c.args.context.now c.loop-steps.steps
          c.loop-steps.stack c.loop-steps.point v c.loop-steps.context i.run going_on;
      stands =
          stop-stands t c.args.code.now.root c.advance-went.new.stack c.advance-went.new.point stepped
          c.why_of.result y c.advance-went.ensures.stands;
      within = omega (arith, c.loop-steps-test.true);
      counted = stop-counted stepped c.why_of.result c.loop-steps.steps c.args.most y;
      asked = λ taken. stop-asked (g.H.StopTest.stops c.args.host.now) stepped c.why_of.result _ y;
      passed =
          λ taken. stop-passed (g.H.StopTest.stops c.args.host.now)
          stepped c.why_of.result c.loop-steps.steps _ _ _ y (i.passed taken);
      values =
          λ taken. stop-prints ts t c.args.code.now.root c.args.stack.now c.args.point.now w c.args.context.now
          c.loop-steps.steps c.loop-steps.stack c.advance-went.new.stack c.loop-steps.point c.advance-went.new.point
          v x c.loop-steps.context c.advance-went.new.context stepped c.why_of.result i.run going_on y
          taken
          (c.advance-went.ensures.told taken);
      silent = λ taken. silent-but-last c.loop-steps.steps _ _ _ (i.silent taken);
    }

pub returns-then-stops_at : goal.returns-then-stops_at
returns-then-stops_at g c =
    let ts = c.args.code.now.names.now in
    let t = c.args.code.now.table.now in
    let w = g.W.World.world ts c.args.world.now in
    let v = g.W.World.world ts c.loop-steps.world in
    let x = g.W.World.world ts c.advance-went.new.world in
    let stepped = told_by c.advance-went.result c.advance-went.new.told in
    let i = c.loop-steps.invariant in
    let going_on = going c.loop-steps.point (λ v e. c.in_default.not-Done v (c.get.ensures ∙ e)) in
    let none = goes-none stepped (sym c.is_stop.ensures ∙ c.if-is_stop.false) in
    let n = next-runs ts t c.args.code.now.root c.args.stack.now c.args.point.now w c.args.context.now
    c.loop-steps.steps
    c.loop-steps.stack c.advance-went.new.stack c.loop-steps.point c.advance-went.new.point v x c.loop-steps.context
    c.advance-went.new.context stepped i.run going_on none c.advance-went.ensures.told
    c.advance-went.ensures.stands in
    record {
      told = n.runs;
      left = n.left;
      stands = n.stands;
      within = omega (arith, c.loop-steps-test.true);
      counted = omega arith;
      asked =
          λ taken. asked-so (g.H.StopTest.stops c.args.host.now) _ _ _ (n.runs taken) (c.stops_at.ensures ts x taken)
          c.if-stops_at.true;
      passed = λ taken. passed-but-last (g.H.StopTest.stops c.args.host.now) c.loop-steps.steps _ _ _ (i.passed taken);
      values =
          λ taken. next-silent ts t c.args.code.now.root c.args.stack.now c.args.point.now w c.args.context.now
          c.loop-steps.steps c.loop-steps.stack c.advance-went.new.stack c.loop-steps.point c.advance-went.new.point
          v x c.loop-steps.context c.advance-went.new.context stepped i.run going_on none taken
          (c.advance-went.ensures.told taken);
      silent = λ taken. silent-but-last c.loop-steps.steps _ _ _ (i.silent taken);
    }

pub loop-steps-preserved : goal.loop-steps-preserved
loop-steps-preserved g c =
    let ts = c.args.code.now.names.now in
    let t = c.args.code.now.table.now in
    let w = g.W.World.world ts c.args.world.now in
    let v = g.W.World.world ts c.loop-steps.world in
    let x = g.W.World.world ts c.advance-went.new.world in
    let stepped = told_by c.advance-went.result c.advance-went.new.told in
    let i = c.loop-steps.invariant in
    let going_on = going c.loop-steps.point (λ v e. c.in_default.not-Done v (c.get.ensures ∙ e)) in
    let none = goes-none stepped (sym c.is_stop.ensures ∙ c.if-is_stop.false) in
    let n = next-runs ts t c.args.code.now.root c.args.stack.now c.args.point.now w c.args.context.now
    c.loop-steps.steps
    c.loop-steps.stack c.advance-went.new.stack c.loop-steps.point c.advance-went.new.point v x c.loop-steps.context
    c.advance-went.new.context stepped i.run going_on none c.advance-went.ensures.told
    c.advance-went.ensures.stands in
    record {
      run = n;
      passed =
          λ taken. more-passed (g.H.StopTest.stops c.args.host.now) c.loop-steps.steps _ _ _ (i.passed taken)
          (asked-so (g.H.StopTest.stops c.args.host.now) _ _ _ (n.runs taken) (c.stops_at.ensures ts x taken)
          c.if-stops_at.false);
      silent =
          λ taken. more-silent c.loop-steps.steps _ _ _ (i.silent taken)
          (next-silent ts t c.args.code.now.root c.args.stack.now c.args.point.now w c.args.context.now
          c.loop-steps.steps
          c.loop-steps.stack c.advance-went.new.stack c.loop-steps.point c.advance-went.new.point v x
          c.loop-steps.context c.advance-went.new.context stepped i.run going_on none taken
          (c.advance-went.ensures.told taken));
    }

pub advance-went-requires-clause-going : goal.advance-went-requires-clause-going
advance-went-requires-clause-going g c =
    going c.loop-steps.point (λ v e. c.in_default.not-Done v (c.get.ensures ∙ e))
