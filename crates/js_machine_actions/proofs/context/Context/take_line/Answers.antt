use Rattle.std.proofs.Common.{refl, sym, ◌∙◌}
use Rattle.js_machine_actions.proofs.ContextLemmas.{takes-by, takes-none}
use Rattle.js_machine_actions.proofs.context.Context.take_line.Goals as goal

pub returns-then-is_evaluation : goal.returns-then-is_evaluation
returns-then-is_evaluation g c =
    takes-none (g.W.World.world c.args.names.now c.args.world.now) c.args.self.now c.args.self.now refl
    (sym (c.is_evaluation.ensures c.args.names.now) ∙ c.if-is_evaluation.true)

pub returns : goal.returns
returns g c =
    takes-by (g.W.World.world c.args.names.now c.args.world.now) _ c.args.self.now c.self.view_is
    (sym (c.is_evaluation.ensures c.args.names.now) ∙ c.if-is_evaluation.false)
    c.pop_front.new.self.items c.pop_front.result c.pop_front.ensures.items c.pop_front.ensures.rest
