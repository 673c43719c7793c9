use Rattle.std.proofs.Common.{ap}
use Rattle.std.specs.Prelude.{option_copied}
use Rattle.cdp_json.proofs.PieceLemmas.{on-written, written-as}
use Rattle.remote_objects.specs.Descriptors.{descriptor, function_slots}
use Rattle.remote_objects.specs.Making.{made_all}
use Rattle.remote_objects.specs.Views.{sight_of}
use Rattle.remote_objects.specs.Written.{listed_text}
use Rattle.remote_objects.proofs.DescriptorTextLemmas.{function-written}
use Rattle.remote_objects.proofs.describer.Describer.write_function_slots.Goals as goal

pub returns : goal.returns
returns g c =
    let sight = sight_of g.S.FunctionSources.node_text
    (g.W.World.world c.args.self.now.names.now c.args.self.now.world.now)
    c.args.self.now.scripts.now c.args.self.now.session in
    let group = option_copied c.args.group in
    let f = c.args.function.now in
    let h = c.args.handles.now in
    record {
      text =
          on-written c.write_text_property.result c.write_text_property.ensures
          (λ e. written-as
          (ap (λ name. listed_text (made_all (descriptor sight c.args.detail group) (function_slots f.length name) h))
          c.in_ok-name.ensures)
          (function-written sight c.args.detail group c.name_key.result.now c.in_ok-name.name.now f.length h
          c.name_key.ensures c.in_ok-write_function_length.ensures.text c.in_ok-put.ensures.put e));
      handles =
          on-written c.write_text_property.result c.write_text_property.ensures
          (λ e. c.in_ok-write_function_length.ensures.handles);
    }
