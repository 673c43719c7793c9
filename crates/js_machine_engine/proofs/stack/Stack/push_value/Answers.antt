use Rattle.std.proofs.Common.{List, reverse, ap, ◌∙◌}
use Rattle.js_heap.specs.declared.value.Value.{Value}
use Rattle.js_machine_engine.specs.Stacks.{with_value, widened}
use Rattle.js_machine_engine.proofs.StackLemmas.{value-view, value-kept}
use Rattle.js_machine_engine.proofs.stack.Stack.push_value.Goals as goal

pub invariant_of-self-2 : goal.invariant_of-self-2
invariant_of-self-2 c =
    let s = c.self.inside in
    value-kept s.tasks.items s.values.items c.push.new.self.items c.args.value s.extras.items c.in_ok-push.ensures.items
    c.self.invariant

pub returns : goal.returns
returns c =
    let s = c.self.inside in
    ap (λ (vs : List Value). widened (reverse s.tasks.items) vs (reverse s.extras.items)) c.in_ok-push.ensures.items
    ∙ value-view (reverse s.tasks.items) s.values.items c.args.value (reverse s.extras.items) c.self.invariant.based
    ∙ ap (with_value c.args.value) c.self.view_is
