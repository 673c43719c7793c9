use Rattle.std.specs.Option.{is_some}
use Rattle.std.proofs.Common.{sym, ap, ◌∙◌, arith}
use Rattle.js_machine.proofs.PlainLemmas.{made-on, made-still, made-whole, made-some}
use Rattle.js_machine.proofs.plain.run_on.Goals as goal
use Rattle.js_machine.proofs.plain.run_on.Goals.{else-loop-left-test, then-loop-left-test+then-is_some, then-loop-left-test+else-is_some+in_default+then-ran-eq0}

pub loop-left-preserved : goal.loop-left-preserved
loop-left-preserved g c =
    let r = c.run_until-ran.ensures in
    record {
      made =
          made-on c.args.machine.now c.loop-left.machine c.run_until-ran.new.self _ _ _ c.args.most c.loop-left.left
          c.run_until-ran.result.steps c.run_until-ran.result.why c.loop-left.invariant.made c.loop-left.invariant.within
          r.within
          (record { run = r.run; left = r.left; end = r.end; code = r.code; kept = c.in_default.not-Memory });
      within = omega arith;
    }

pub loop-left-preserved-else-ran-eq0 : goal.loop-left-preserved-else-ran-eq0
loop-left-preserved-else-ran-eq0 g c =
    let r = c.run_until-ran.ensures in
    record {
      made =
          made-on c.args.machine.now c.loop-left.machine c.run_until-ran.new.self _ _ _ c.args.most c.loop-left.left
          c.run_until-ran.result.steps c.run_until-ran.result.why c.loop-left.invariant.made c.loop-left.invariant.within
          r.within
          (record { run = r.run; left = r.left; end = r.end; code = r.code; kept = c.in_default.not-Memory });
      within = omega arith;
    }

pub returns : goal.returns
returns g c =
    let m = c.args.machine.now in
    let i = c.loop-left.invariant in
    elim c.loop-left-test.branch [
      | else-loop-left-test w ↦ rw (w.machine-is, w.world-is, w.left-is)
          (made-whole m c.loop-left.machine _ _ c.args.most c.loop-left.left i.made w.loop-left-test.false)
      | then-loop-left-test+then-is_some w ↦ rw (w.machine-is, w.world-is, w.left-is)
          (made-some m c.loop-left.machine _ _ c.args.most c.loop-left.left i.made i.within
          (ap is_some (sym w.end.ensures) ∙ sym w.is_some.ensures ∙ w.if-is_some.true))
      | then-loop-left-test+else-is_some+in_default+then-ran-eq0 w ↦
          let r = w.run_until-ran.ensures in
          rw (w.machine-is, w.world-is, w.left-is)
          (made-still m c.loop-left.machine w.run_until-ran.new.self _ _ _ c.args.most c.loop-left.left w.run_until-ran.result.steps
          w.run_until-ran.result.why i.made i.within r.within
          (record { run = r.run; left = r.left; end = r.end; code = r.code; kept = w.in_default.not-Memory })
          w.loop-left-test.true r.counted w.if-ran-eq0.true)
    ]
