use Rattle.std.proofs.Common.{◌≡◌, ◌∷◌, length, reverse, refl, ap, ◌∙◌, arith}
use Rattle.js_machine_engine.specs.Stacks.{owning, other_extras}
use Rattle.js_machine_engine.proofs.StackLemmas.{own-view, own-kept}
use Rattle.js_machine_engine.proofs.stack.Stack.own.Goals as goal

pub invariant_of-self-2 : goal.invariant_of-self-2
invariant_of-self-2 c =
    let s = c.self.inside in
    let e : c.len-n.result ≡ length s.tasks.items = omega arith in
    let t = c.index-task.result.now in
    own-kept c.args.op c.args.info c.args.at c.args.mid s.tasks.items s.values.items s.extras.items
    c.own_extra.new.extras.items t _ c.args.extra c.len-n.result e
    (omega (arith, c.if-n-eq0.false)) c.index-task.ensures refl c.requires
    (c.in_ok-own_extra.ensures.ok
    ∙ ap (λ b. c.args.extra ∷ other_extras b (reverse s.extras.items)) c.has_extra.ensures)
    c.self.invariant

pub returns : goal.returns
returns c =
    let s = c.self.inside in
    let e : c.len-n.result ≡ length s.tasks.items = omega arith in
    let t = c.index-task.result.now in
    own-view c.args.op c.args.info c.args.at c.args.mid s.tasks.items s.values.items s.extras.items
    c.own_extra.new.extras.items t _ c.args.extra c.len-n.result e
    (omega (arith, c.if-n-eq0.false)) c.index-task.ensures refl c.requires
    (c.in_ok-own_extra.ensures.ok
    ∙ ap (λ b. c.args.extra ∷ other_extras b (reverse s.extras.items)) c.has_extra.ensures)
    ∙ ap (owning c.args.op c.args.info c.args.at c.args.mid c.args.extra) c.self.view_is
