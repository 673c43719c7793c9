use Rattle.std.proofs.Common.{sym, ◌∙◌}
use Rattle.js_machine_engine.specs.Points.{term_at}
use Rattle.cdp_host.specs.Arrivals.{arrival_at}
use Rattle.cdp_host.proofs.advance.WatchStopTest.asks.Goals as goal

pub returns-else-self : goal.returns-else-self
returns-else-self c = λ names.
    let a = arrival_at c.args.self.now.scripts.now (term_at names c.args.table.now c.args.stack.now c.args.point)
    c.args.context.now.frames in
    c.if-self.false ∙ sym (c.args.self.now.heard c.if-self.false a)
