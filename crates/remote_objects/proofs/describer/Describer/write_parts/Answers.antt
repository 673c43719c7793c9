use Rattle.std.proofs.Common.{◌≡◌, ◌∷◌, ◌++◌, [], map, true, refl, ap, rules}
use Rattle.std.specs.Prelude.{option_copied}
use Rattle.cdp_json.proofs.PieceLemmas.{further}
use Rattle.js_heap_parts.specs.Shown.{part_shown}
use Rattle.remote_objects.specs.Descriptors.{descriptor}
use Rattle.remote_objects.specs.Making.{made_all}
use Rattle.remote_objects.specs.Slots.{part_slot}
use Rattle.remote_objects.specs.Views.{sight_of}
use Rattle.remote_objects.specs.Written.{listed_text}
use Rattle.remote_objects.proofs.DescriptorTextLemmas.{all-written, text-on}
use Rattle.remote_objects.proofs.describer.Describer.write_parts.Goals as goal

pub loop-part-init : goal.loop-part-init
loop-part-init g c = rw c.into_iter-part-iterator.ensures.into_iter_gives (record { text = refl; handles = refl })

pub loop-part-preserved : goal.loop-part-preserved
loop-part-preserved g c =
    let sight = sight_of g.S.FunctionSources.node_text
    (g.W.World.world c.args.self.now.names.now c.args.self.now.world.now)
    c.args.self.now.scripts.now c.args.self.now.session in
    let each = descriptor sight c.args.detail (option_copied c.args.group) in
    let whole = made_all each (map part_slot c.args.parts) c.args.handles.now in
    let here : c.loop-part.part-iterator ≡ part_shown c.in-Some.part ∷ c.next.new.self = search rules in
    text-on each (map part_slot c.loop-part.part-iterator) (part_slot (part_shown c.in-Some.part))
    (map part_slot c.next.new.self) c.loop-part.behind true c.loop-part.pen c.write_part.new.pen
    (c.args.pen.now ++ listed_text whole) c.loop-part.handles c.write_part.new.handles whole
    (ap (map part_slot) here) refl (further c.in_ok-comma.ensures.put c.in_ok-write_part.ensures.text)
    c.in_ok-write_part.ensures.handles c.loop-part.invariant

pub returns : goal.returns
returns g c =
    let sight = sight_of g.S.FunctionSources.node_text
    (g.W.World.world c.args.self.now.names.now c.args.self.now.world.now)
    c.args.self.now.scripts.now c.args.self.now.session in
    let each = descriptor sight c.args.detail (option_copied c.args.group) in
    let whole = made_all each (map part_slot c.args.parts) c.args.handles.now in
    let none : c.loop-part.part-iterator ≡ [] = search rules in
    let over = all-written each (map part_slot c.loop-part.part-iterator) c.loop-part.behind c.loop-part.pen
    (c.args.pen.now ++ listed_text whole) c.loop-part.handles whole (ap (map part_slot) none) c.loop-part.invariant in
    record { text = record { is = over.0 }; handles = over.1 }
