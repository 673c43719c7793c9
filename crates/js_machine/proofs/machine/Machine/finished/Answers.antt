use Rattle.std.proofs.Common.{Option, sym, ap, subst, ◌∙◌}
use Rattle.js_machine_actions.specs.Contexts.{state_of}
use Rattle.js_machine_engine.specs.Points.{term_at}
use Rattle.js_machine_engine.specs.Running.{IsRunning}
use Rattle.js_machine.specs.declared.end.End.{End}
use Rattle.js_machine.specs.Machines.{run_by}
use Rattle.js_machine.proofs.MachineLemmas.{stands-now, done-over, left-running}
use Rattle.js_machine.proofs.machine.Machine.finished.Goals as goal

pub returns-in-Done-clause-over : goal.returns-in-Done-clause-over
returns-in-Done-clause-over c = λ w taken.
    let m = c.self.inside in
    let s = state_of w m.context taken in
    let at = stands-now m.table m.stack m.point m.end c.in-None.is c.self.invariant.stands in
    rw (← c.self.view_is)
    (ap (λ e. run_by e (term_at m.names m.table m.stack m.point) s) c.in-None.is
    ∙ done-over m.names m.table m.stack m.point c.in-Done.value s c.in-Done.is at.at)

pub returns-in_default-clause-left : goal.returns-in_default-clause-left
returns-in_default-clause-left c = λ going w taken.
    let m = c.self.inside in
    let s = state_of w m.context taken in
    let at = stands-now m.table m.stack m.point m.end c.in-None.is c.self.invariant.stands in
    let P : Option End → Type 0 = λ e. IsRunning (run_by e (term_at m.names m.table m.stack m.point) s) in
    rw (← c.self.view_is)
    (subst P (sym c.in-None.is) (left-running m.names m.table m.stack m.point s at.at c.in_default.not-Done))
