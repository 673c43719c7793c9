use Rattle.js_machine_actions.proofs.ContextLemmas.{sets-by}
use Rattle.js_machine_actions.proofs.context.Context.set_here.Goals as goal

pub returns : goal.returns
returns c = sets-by _ c.args.self.now c.self.view_is c.args.here c.move_top.new.frames.items c.move_top.ensures
