use Rattle.std.specs.Prelude.{option_copied}
use Rattle.cdp_json.proofs.PieceLemmas.{further, on-written, written-as}
use Rattle.remote_objects.specs.Descriptors.{descriptors_with}
use Rattle.remote_objects.specs.Views.{sight_of}
use Rattle.remote_objects.proofs.DescriptorTextLemmas.{list-written}
use Rattle.remote_objects.proofs.describer.Describer.write_descriptors.Goals as goal

pub returns : goal.returns
returns g c =
    let sight = sight_of g.S.FunctionSources.node_text
    (g.W.World.world c.args.self.now.names.now c.args.self.now.world.now)
    c.args.self.now.scripts.now c.args.self.now.session in
    let m = descriptors_with sight c.args.detail (option_copied c.args.group) c.args.target c.args.handles.now in
    record {
      text =
          on-written c.put-2.result c.put-2.ensures.put
          (λ e. written-as (list-written m.made)
          (further c.in_ok-put.ensures.put (further c.in_ok-write_slots.ensures.text e)));
      handles = on-written c.put-2.result c.put-2.ensures.put (λ e. c.in_ok-write_slots.ensures.handles);
    }
