use Rattle.std.specs.Prelude.{option_copied}
use Rattle.cdp_json.proofs.PieceLemmas.{further, on-written, written-as}
use Rattle.js_heap_parts.specs.Shown.{part_shown}
use Rattle.remote_objects.specs.Remote.{remote_with}
use Rattle.remote_objects.specs.Slots.{part_slot}
use Rattle.remote_objects.specs.Views.{sight_of}
use Rattle.remote_objects.proofs.DescriptorTextLemmas.{property-written}
use Rattle.remote_objects.proofs.describer.Describer.write_part.Goals as goal

pub returns : goal.returns
returns g c =
    let sight = sight_of g.S.FunctionSources.node_text
    (g.W.World.world c.args.self.now.names.now c.args.self.now.world.now)
    c.args.self.now.scripts.now c.args.self.now.session in
    let part = c.args.part in
    let value = (remote_with sight c.args.detail (option_copied c.args.group) part.value c.args.handles.now).made in
    record {
      text =
          on-written c.write_held.result c.write_held.ensures.text
          (λ e. written-as (property-written (part_slot (part_shown part)) value)
          (further c.in_ok-write_flags.ensures (further c.in_ok-write_key.ensures e)));
      handles = c.write_held.ensures.handles;
    }
