use Rattle.std.proofs.Common.{ℕ, List, subst}
use Rattle.js_semantics.specs.State.{fail}
use Rattle.js_machine_actions.specs.Flow.{Ends}
use Rattle.js_machine_actions.proofs.errors.fail_with.Goals as goal

pub returns-in-Ok : goal.returns-in-Ok
returns-in-Ok g c =
    let v = g.W.World.world c.args.names.now c.args.world.now in
    let w = g.W.World.world c.args.names.now c.fail.new.world in
    let P : List ℕ → Type 0 = λ m. Ends (fail c.args.class m) v c.fail.result w in
    subst P c.in-Ok.ensures c.fail.ensures
