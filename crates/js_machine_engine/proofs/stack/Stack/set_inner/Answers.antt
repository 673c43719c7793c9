use Rattle.std.proofs.Common.{◌≡◌, length, refl, ap, ◌∙◌, arith}
use Rattle.js_machine_engine.specs.Stacks.{within}
use Rattle.js_machine_engine.proofs.StackLemmas.{set-view, set-kept}
use Rattle.js_machine_engine.proofs.stack.Stack.set_inner.Goals as goal

pub invariant_of-self : goal.invariant_of-self
invariant_of-self c =
    let s = c.self.inside in
    let e : c.len-n.result ≡ length s.tasks.items = omega arith in
    set-kept s.tasks.items s.values.items s.extras.items c.index_mut.result.now _ c.len-n.result e c.if-n-gt0.true
    c.index_mut.ensures.value refl refl c.self.invariant

pub returns-then-n-gt0 : goal.returns-then-n-gt0
returns-then-n-gt0 c =
    let s = c.self.inside in
    let e : c.len-n.result ≡ length s.tasks.items = omega arith in
    set-view (within c.args.inner)
    s.tasks.items s.values.items s.extras.items c.index_mut.result.now _ c.len-n.result e c.if-n-gt0.true
    c.index_mut.ensures.value refl refl
    (λ x y ws. refl)
    ∙ ap (within c.args.inner) c.self.view_is
