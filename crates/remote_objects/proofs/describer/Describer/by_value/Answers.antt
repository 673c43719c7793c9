use Rattle.cdp_json.specs.Views.{json_view}
use Rattle.remote_objects.specs.ByValue.{value_given, most_deep, most_met}
use Rattle.remote_objects.proofs.GivenLemmas.{gives-alone}
use Rattle.remote_objects.proofs.describer.Describer.by_value.Goals as goal

pub returns : goal.returns
returns g c =
    let world = g.W.World.world c.args.self.now.names.now c.args.self.now.world.now in
    gives-alone json_view c.value_given.result most_deep most_met c.value_given.new.left
    (value_given world most_deep c.args.value) c.value_given.ensures
