use Rattle.js_machine_actions.proofs.ContextLemmas.{pops-by}
use Rattle.js_machine_actions.proofs.context.Context.pop_frame.Goals as goal

pub returns : goal.returns
returns c = pops-by _ c.args.self.now c.self.view_is c.pop_front.new.self.items c.pop_front.ensures.rest
