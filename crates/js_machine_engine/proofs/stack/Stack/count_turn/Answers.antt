use Rattle.std.proofs.Common.{◌≡◌, ◌-◌, Some, List, length, slice_get, reverse, ap, sym, ◌∙◌}
use Rattle.js_machine_engine.specs.declared.task.Task.{Task}
use Rattle.js_machine_engine.specs.Stacks.{turned, has_extra, turned_extras}
use Rattle.js_machine_engine.proofs.StackLemmas.{turn-view}
use Rattle.js_machine_engine.proofs.stack.Stack.count_turn.Goals as goal

pub returns-in_ok-count_turn_of : goal.returns-in_ok-count_turn_of
returns-in_ok-count_turn_of c =
    let s = c.self.inside in
    let t = c.in-Some.task.now in
    let e : slice_get s.tasks.items (length s.tasks.items - 1) ≡ Some t = ap
    (λ (ts : List Task). slice_get ts (length ts - 1)) (sym c.deref.ensures.value)
    ∙ sym c.in-Some.ensures.value in
    let h : reverse c.count_turn_of.new.extras.items ≡ turned_extras (has_extra t.op t.info) (reverse s.extras.items)
    = c.in_ok-count_turn_of.ensures.ok
    ∙ ap (λ b. turned_extras b (reverse s.extras.items)) c.has_extra-owns.ensures in
    turn-view s.tasks.items s.values.items s.extras.items c.count_turn_of.new.extras.items t e h
    ∙ ap turned c.self.view_is
