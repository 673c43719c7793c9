use Rattle.cdp_json.specs.Views.{json_view}
use Rattle.remote_objects.specs.ByValue.{plain_given}
use Rattle.remote_objects.proofs.GivenLemmas.{not-met, some-met}
use Rattle.remote_objects.proofs.describer.Describer.plain_given.Goals as goal

pub returns-in_err-meet : goal.returns-in_err-meet
returns-in_err-meet g c =
    let world = g.W.World.world c.args.self.now.names.now c.args.self.now.world.now in
    not-met json_view c.from_residual.result c.in_err-meet.field-0.0 c.args.deep c.args.left.now c.meet.new.left
    (plain_given world c.args.value) (some-met 0) c.in_err-meet.ensures c.from_residual.ensures.1
