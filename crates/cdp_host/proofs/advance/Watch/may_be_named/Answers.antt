use Rattle.js_machine_engine.specs.Points.{term_at}
use Rattle.cdp_host.proofs.NamingLemmas.{tested-none, unnamed-where}
use Rattle.cdp_host.proofs.advance.Watch.may_be_named.Goals as goal

pub returns-then-is_none-2 : goal.returns-then-is_none-2
returns-then-is_none-2 c = λ ts.
    unnamed-where c.args.self.now.scripts.now (term_at ts c.args.table.now c.args.stack.now c.args.point)
    c.args.context.now.frames c.args.self.now.seats.now
    c.arrival-mark.result c.thrown.result (c.arrival-mark.ensures ts)
    (c.thrown.ensures ts c.args.table.now c.requires.at)
    (tested-none c.arrival-mark.result c.is_none.result c.is_none.ensures c.if-is_none.true)
    (tested-none c.thrown.result c.is_none-then-is_none.result c.is_none-then-is_none.ensures c.if-is_none-2.true)
