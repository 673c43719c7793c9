use Rattle.cdp_host.proofs.ArrivalLemmas.{lines-more, short-more}
use Rattle.cdp_host.proofs.lines.lines_of_all.Goals as goal

pub loop-script-preserved : goal.loop-script-preserved
loop-script-preserved c = record {
  starts =
      lines-more c.loop-script.lines.items c.push.new.self.items c.in_ok-lines_of.field-0 c.args.scripts.now
      c.loop-script.script-index c.script-item.result c.in_ok-push.ensures.items c.in_ok-lines_of.ensures.starts
      c.loop-script-test.true c.script-item.is c.loop-script.invariant.starts;
  short =
      short-more c.args.scripts.now c.loop-script.script-index c.script-item.result c.loop-script-test.true
      c.script-item.is c.in_ok-lines_of.ensures.short c.loop-script.invariant.short;
}
