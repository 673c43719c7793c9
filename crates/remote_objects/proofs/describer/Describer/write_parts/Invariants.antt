use Rattle.std.proofs.Common.{◌++◌}
use Rattle.std.specs.Prelude.{map, option_copied}
use Rattle.remote_objects.specs.Descriptors.{descriptor}
use Rattle.remote_objects.specs.Making.{made_all}
use Rattle.remote_objects.specs.Slots.{part_slot}
use Rattle.remote_objects.specs.Views.{sight_of}
use Rattle.remote_objects.specs.Written.{listed_text}
use Rattle.remote_objects.proofs.DescriptorTextLemmas.{Continues}
use Rattle.remote_objects.proofs.describer.Describer.write_parts.Given as goal

abbrev pub invariant-loop-part : goal.invariant-loop-part
invariant-loop-part g l =
    let sight = sight_of g.S.FunctionSources.node_text (g.W.World.world l.self.names.now l.self.world.now)
    l.self.scripts.now l.self.session in
    let each = descriptor sight l.detail (option_copied l.group) in
    let whole = made_all each (map part_slot l.fn.parts) l.fn.handles in
    Continues l.pen (l.fn.pen ++ listed_text whole) l.behind
    (made_all each (map part_slot l.part-iterator) l.handles) whole
