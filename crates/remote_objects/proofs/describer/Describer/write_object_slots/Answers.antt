use Rattle.std.proofs.Common.{◌≡◌, map, true, ap, ◌∙◌, rules}
use Rattle.std.specs.Prelude.{option_copied}
use Rattle.js_heap_memory.specs.Cells.{cell_at}
use Rattle.cdp_json.proofs.PieceLemmas.{on-written}
use Rattle.remote_objects.specs.Descriptors.{descriptor, object_slots}
use Rattle.remote_objects.specs.Previews.{has_preview}
use Rattle.remote_objects.specs.Slots.{part_slot}
use Rattle.remote_objects.specs.Views.{sight_of}
use Rattle.remote_objects.proofs.DescriptorTextLemmas.{kept-as, listed-as, object-slots}
use Rattle.remote_objects.proofs.describer.Describer.write_object_slots.Goals as goal

pub returns-in_default-clause-text : goal.returns-in_default-clause-text
returns-in_default-clause-text g c =
    let sight = sight_of g.S.FunctionSources.node_text
    (g.W.World.world c.args.self.now.names.now c.args.self.now.world.now)
    c.args.self.now.scripts.now c.args.self.now.session in
    let each = descriptor sight c.args.detail (option_copied c.args.group) in
    let names = c.args.self.now.names.now in
    let cell = cell_at names (option_copied c.args.cell) in
    let has : has_preview cell ≡ true = search rules in
    let same = ap (map part_slot) (c.of_object.ensures names) ∙ object-slots cell has in
    let ps = map part_slot c.of_object.result in
    on-written c.write_parts.result c.write_parts.ensures.text
    (λ e. listed-as each ps (object_slots cell) c.args.handles.now same e)

pub returns-in_default-clause-handles : goal.returns-in_default-clause-handles
returns-in_default-clause-handles g c =
    let sight = sight_of g.S.FunctionSources.node_text
    (g.W.World.world c.args.self.now.names.now c.args.self.now.world.now)
    c.args.self.now.scripts.now c.args.self.now.session in
    let each = descriptor sight c.args.detail (option_copied c.args.group) in
    let names = c.args.self.now.names.now in
    let cell = cell_at names (option_copied c.args.cell) in
    let has : has_preview cell ≡ true = search rules in
    let same = ap (map part_slot) (c.of_object.ensures names) ∙ object-slots cell has in
    let ps = map part_slot c.of_object.result in
    on-written c.write_parts.result c.write_parts.ensures.handles
    (λ d. kept-as each ps (object_slots cell) c.args.handles.now c.write_parts.new.handles same d)
