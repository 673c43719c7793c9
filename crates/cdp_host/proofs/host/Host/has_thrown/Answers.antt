use Rattle.std.proofs.Common.{true, false, sym, ap, ◌∙◌}
use Rattle.js_semantics.specs.Run.{over}
use Rattle.js_heap_memory.specs.Heaps.{heap_world}
use Rattle.js_machine.specs.Machines.{state_of}
use Rattle.js_machine_engine.specs.Stepping.{finish_of}
use Rattle.cdp_host.specs.Programs.{has_thrown}
use Rattle.cdp_host.proofs.PartLemmas.{finished-thrown, unfinished-thrown}
use Rattle.cdp_host.proofs.host.Host.has_thrown.Goals as goal

pub returns-in-Some-Threw : goal.returns-in-Some-Threw
returns-in-Some-Threw c = λ works taken.
    let a = c.self.inside in
    let s = state_of a.machine (heap_world a.machine.names a.heap) taken in
    rw (← c.self.view_is)
    (sym (finished-thrown a.machine a.heap taken c.in-Some-Threw.field-0 true c.in-Some-Threw.ensures.over
    (ap (λ f. has_thrown (over (finish_of f) s)) c.in-Some-Threw.field-0-is)))

pub returns-in-Some-Ended : goal.returns-in-Some-Ended
returns-in-Some-Ended c = λ works taken.
    let a = c.self.inside in
    let s = state_of a.machine (heap_world a.machine.names a.heap) taken in
    rw (← c.self.view_is)
    (sym (finished-thrown a.machine a.heap taken c.in-Some-Ended.field-0 false c.in-Some-Ended.ensures.over
    (ap (λ f. has_thrown (over (finish_of f) s)) c.in-Some-Ended.field-0-is)))

pub returns-in-None : goal.returns-in-None
returns-in-None c = λ works taken.
    let a = c.self.inside in
    let kept = c.self.invariant.kept (ap (λ h. h.broken) c.self.view_is ∙ works) in
    rw (← c.self.view_is)
    (sym (unfinished-thrown a.machine a.heap taken kept c.in-None.ensures.left (sym c.in-None.ensures.finish)))
