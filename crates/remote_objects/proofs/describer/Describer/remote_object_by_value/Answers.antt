use Rattle.std.specs.Prelude.{map}
use Rattle.js_heap.specs.World.{read_cell}
use Rattle.js_heap.specs.declared.value.Value.TheVariants as values
use Rattle.cdp_json.specs.Views.{json_view, member_view}
use Rattle.remote_objects.specs.ByValue.{by_value}
use Rattle.remote_objects.specs.Values.{cell_pairs}
use Rattle.remote_objects.specs.Views.{sight_of}
use Rattle.remote_objects.proofs.GivenLemmas.{value-stops, stops-so, value-put}
use Rattle.remote_objects.proofs.describer.Describer.remote_object_by_value.Goals as goal

pub returns-in_err-json : goal.returns-in_err-json
returns-in_err-json g c =
    let world = g.W.World.world c.args.self.now.names.now c.args.self.now.world.now in
    let sight = sight_of g.S.FunctionSources.node_text world c.args.self.now.scripts.now c.args.self.now.session in
    value-stops json_view c.from_residual.result c.in_err-json.field-0.0 (cell_pairs sight (read_cell world c.args.a))
    (by_value world (values.Object c.args.a))
    c.from_residual.ensures.1
    (stops-so json_view c.in_err-json.field-0.0 (by_value world (values.Object c.args.a)) c.in_err-json.ensures)

pub returns : goal.returns
returns g c =
    let world = g.W.World.world c.args.self.now.names.now c.args.self.now.world.now in
    let sight = sight_of g.S.FunctionSources.node_text world c.args.self.now.scripts.now c.args.self.now.session in
    value-put (cell_pairs sight (read_cell world c.args.a)) (map member_view c.in_ok-members.members.items)
    (map member_view c.put_value.new.members.items) (json_view c.in_ok-json.json) (json_view c.object.result)
    (by_value world (values.Object c.args.a))
    c.in_ok-json.ensures c.in_ok-members.ensures c.in_ok-put_value.ensures.ok c.object.ensures
