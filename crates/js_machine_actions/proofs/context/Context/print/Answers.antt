use Rattle.std.proofs.Common.{refl, sym, ◌∙◌}
use Rattle.js_machine_actions.proofs.ContextLemmas.{prints-by, prints-none}
use Rattle.js_machine_actions.proofs.context.Context.print.Goals as goal

pub returns-then-is_evaluation : goal.returns-then-is_evaluation
returns-then-is_evaluation g c =
    prints-none (g.W.World.world c.args.names.now c.args.world.now) c.args.self.now c.args.self.now c.args.text refl
    (sym (c.is_evaluation.ensures c.args.names.now) ∙ c.if-is_evaluation.true)

pub returns : goal.returns
returns g c =
    prints-by (g.W.World.world c.args.names.now c.args.world.now) _ c.args.self.now c.self.view_is
    (sym (c.is_evaluation.ensures c.args.names.now) ∙ c.if-is_evaluation.false)
    c.args.text c.push.new.self.items c.in_ok-push.ensures.items
