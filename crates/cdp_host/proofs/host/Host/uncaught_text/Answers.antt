use Rattle.std.proofs.Common.{Some, false, sym, ap, ◌∙◌}
use Rattle.cdp_text.specs.Units.{utf8_of}
use Rattle.js_heap.specs.Values.{shown}
use Rattle.js_semantics.specs.Run.{over}
use Rattle.js_heap_memory.specs.Heaps.{heap_world}
use Rattle.js_machine.specs.Machines.{state_of}
use Rattle.js_machine_engine.specs.Stepping.{finish_of}
use Rattle.cdp_host.specs.Programs.{has_thrown, uncaught_text}
use Rattle.cdp_host.proofs.PartLemmas.{finished-thrown, no-text, unfinished-thrown}
use Rattle.cdp_host.proofs.host.Host.uncaught_text.Goals as goal

pub returns-in_ok-text-in-Some-Threw-clause-text : goal.returns-in_ok-text-in-Some-Threw-clause-text
returns-in_ok-text-in-Some-Threw-clause-text c = λ taken.
    let a = c.self.inside in
    let w = heap_world a.machine.names a.heap in
    let s = state_of a.machine w taken in
    rw (← c.self.view_is)
    (ap Some
    (c.in_ok-text-in-Some-Threw.ensures
    ∙ ap utf8_of
    (c.as_slice.ensures
    ∙ c.in_ok-units-in-Some-Threw.ensures
    ∙ ap (λ names. shown (heap_world names a.heap) c.in-Some-Threw.value) c.names.ensures))
    ∙ sym
    (ap uncaught_text (c.in-Some-Threw.ensures.over w taken)
    ∙ ap (λ f. uncaught_text (over (finish_of f) s)) c.in-Some-Threw.field-0-is))

pub returns-in-Some-Ended-clause-text : goal.returns-in-Some-Ended-clause-text
returns-in-Some-Ended-clause-text c = λ taken.
    let a = c.self.inside in
    let s = state_of a.machine (heap_world a.machine.names a.heap) taken in
    rw (← c.self.view_is)
    (sym
    (no-text _
    (finished-thrown a.machine a.heap taken c.in-Some-Ended.field-0 false c.in-Some-Ended.ensures.over
    (ap (λ f. has_thrown (over (finish_of f) s)) c.in-Some-Ended.field-0-is))))

pub returns-in-None-clause-text : goal.returns-in-None-clause-text
returns-in-None-clause-text c = λ taken.
    let a = c.self.inside in
    let works = sym (ap (λ h. h.broken) c.self.view_is) ∙ c.if-self.false in
    let kept = c.self.invariant.kept (ap (λ h. h.broken) c.self.view_is ∙ works) in
    rw (← c.self.view_is)
    (sym
    (no-text _
    (unfinished-thrown a.machine a.heap taken kept c.in-None.ensures.left (sym c.in-None.ensures.finish))))
