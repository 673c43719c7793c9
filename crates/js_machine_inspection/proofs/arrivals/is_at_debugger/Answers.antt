use Rattle.std.proofs.Common.{sym, ◌∙◌}
use Rattle.js_machine_engine.specs.Points.{term_at}
use Rattle.js_machine_inspection.proofs.ActiveLemmas.{debugger-some, debugger-none}
use Rattle.js_machine_inspection.proofs.arrivals.is_at_debugger.Goals as goal

pub returns-in-Some : goal.returns-in-Some
returns-in-Some c = λ ts.
    c.enters_debugger.ensures
    ∙ sym (debugger-some (term_at ts c.args.table.now c.args.stack.now c.args.point)
    c.args.table.now c.in-Some.next.op c.in-Some.next.info (c.in-Some.ensures ts))

pub returns-in-None : goal.returns-in-None
returns-in-None c =
    λ ts. sym (debugger-none (term_at ts c.args.table.now c.args.stack.now c.args.point) (c.in-None.ensures ts))
