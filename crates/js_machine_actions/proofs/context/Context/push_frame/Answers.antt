use Rattle.js_machine_actions.proofs.ContextLemmas.{pushes-by}
use Rattle.js_machine_actions.proofs.context.Context.push_frame.Goals as goal

pub returns : goal.returns
returns c =
    pushes-by _ c.args.self.now c.self.view_is c.args.frame c.push_front.new.self.items c.in_ok-push_front.ensures.items
