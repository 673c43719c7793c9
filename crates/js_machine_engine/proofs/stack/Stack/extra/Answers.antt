use Rattle.std.proofs.Common.{◌≡◌, ◌-◌, Some, List, length, slice_get, ap, sym, ◌∙◌}
use Rattle.js_machine_engine.specs.declared.task.Task.{Task}
use Rattle.js_machine_engine.specs.declared.task.Extra.{Extra}
use Rattle.js_machine_engine.specs.Stacks.{extra_of}
use Rattle.js_machine_engine.proofs.StackLemmas.{extra-view}
use Rattle.js_machine_engine.proofs.stack.Stack.extra.Goals as goal

pub returns-then-has_extra : goal.returns-then-has_extra
returns-then-has_extra c =
    let s = c.self.inside in
    let t = c.in-Some.task.now in
    let e : slice_get s.tasks.items (length s.tasks.items - 1) ≡ Some t = ap
    (λ (ts : List Task). slice_get ts (length ts - 1)) (sym c.deref.ensures.value)
    ∙ sym c.in-Some.ensures.value in
    c.copied.ensures
    ∙ c.last-then-has_extra.ensures.value
    ∙ ap (λ (es : List Extra). slice_get es (length es - 1)) c.deref-then-has_extra.ensures.value
    ∙ extra-view s.tasks.items s.values.items s.extras.items t e (sym c.if-has_extra.ensures)
    ∙ ap extra_of c.self.view_is
