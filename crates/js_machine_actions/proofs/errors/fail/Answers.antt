use Rattle.std.proofs.Common.{sym, subst}
use Rattle.js_semantics.specs.State.{fail}
use Rattle.js_machine_actions.specs.declared.action_end.ActionEnd.{ActionEnd}
use Rattle.js_machine_actions.specs.Flow.{Ends}
use Rattle.js_machine_actions.proofs.FlowLemmas.{failed-by}
use Rattle.js_machine_actions.proofs.errors.fail.Goals as goal

pub returns : goal.returns
returns g c =
    let v = g.W.World.world c.args.names.now c.args.world.now in
    let w = g.W.World.world c.args.names.now c.make_error.new.world in
    let P : ActionEnd → Type 0 = λ e. Ends (fail c.args.class c.args.message) v e w in
    subst P (sym c.raised_or.ensures)
    (failed-by v w c.args.class c.args.message c.make_error.result c.make_error.ensures)
