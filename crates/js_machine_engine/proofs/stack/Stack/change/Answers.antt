use Rattle.std.proofs.Common.{◌≡◌, length, refl, ap, ◌∙◌, arith}
use Rattle.js_machine_engine.specs.Stacks.{changed, has_extra}
use Rattle.js_machine_engine.proofs.StackLemmas.{set-view, set-kept, owns}
use Rattle.js_machine_engine.proofs.stack.Stack.change.Goals as goal

pub invariant_of-self : goal.invariant_of-self
invariant_of-self c =
    let s = c.self.inside in
    let e : c.len-n.result ≡ length s.tasks.items = omega arith in
    let t = c.index_mut-task.result.now in
    let o : has_extra c.args.op c.args.info ≡ has_extra t.op t.info = owns s.tasks.items s.values.items s.extras.items
    c.args.self.now t c.len-n.result c.args.op c.args.info e c.if-n-gt0.true c.index_mut-task.ensures.value
    c.self.view_is c.requires in
    set-kept s.tasks.items s.values.items s.extras.items t _ c.len-n.result e c.if-n-gt0.true
    c.index_mut-task.ensures.value refl o c.self.invariant

pub returns-then-n-gt0 : goal.returns-then-n-gt0
returns-then-n-gt0 c =
    let s = c.self.inside in
    let e : c.len-n.result ≡ length s.tasks.items = omega arith in
    let t = c.index_mut-task.result.now in
    let o : has_extra c.args.op c.args.info ≡ has_extra t.op t.info = owns s.tasks.items s.values.items s.extras.items
    c.args.self.now t c.len-n.result c.args.op c.args.info e c.if-n-gt0.true c.index_mut-task.ensures.value
    c.self.view_is c.requires in
    set-view (changed c.args.op c.args.info c.args.at c.args.mid)
    s.tasks.items s.values.items s.extras.items t _ c.len-n.result e c.if-n-gt0.true c.index_mut-task.ensures.value refl
    o
    (λ x y ws. refl)
    ∙ ap (changed c.args.op c.args.info c.args.at c.args.mid) c.self.view_is
