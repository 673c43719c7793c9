use Rattle.std.proofs.Common.{◌++◌, sym, ◌∙◌, arith}
use Rattle.std.specs.Prelude.{map}
use Rattle.js_heap.specs.declared.value.Value.TheVariants as values
use Rattle.cdp_json.specs.Parts.{list_of, object_of}
use Rattle.cdp_json.specs.Views.{json_view, member_view}
use Rattle.remote_objects.specs.ByValue.{all_given, mapped, element_given, member_given, value_given, object_given}
use Rattle.remote_objects.proofs.GivenLemmas.{stopped, not-met, element-put, element-goes, element-stops, member-none, member-out, member-stops, member-put, property-goes, property-stops, list-ends, object-shallow, object-counts, object-answers}
use Rattle.remote_objects.proofs.describer.Describer.+given.Goals as goal

pub put_element-returns-in_err-json : goal.put_element-returns-in_err-json
put_element-returns-in_err-json g t c =
    let world = g.W.World.world c.args.self.now.names.now c.args.self.now.world.now in
    let way = value_given world c.args.deep in
    let before = map json_view c.args.listed.now.items in
    stopped _ c.from_residual.result c.in_err-json.field-0.0 c.args.deep c.args.left.now c.value_given.new.left
    (mapped (λ parts. before ++ parts) (element_given world way c.args.value)) c.args.deep c.args.left.now
    (way c.args.value)
    (λ long. long) c.from_residual.ensures.1 c.in_err-json.ensures

pub put_element-returns : goal.put_element-returns
put_element-returns g t c =
    let world = g.W.World.world c.args.self.now.names.now c.args.self.now.world.now in
    element-put world (value_given world c.args.deep)
    c.args.value c.args.listed.now.items c.push.new.self.items c.in_ok-json.json c.element_of.result c.args.deep
    c.args.left.now c.value_given.new.left
    c.in_ok-json.ensures c.element_of.ensures c.in_ok-push.ensures.items

pub elements_given-loop-value-preserved : goal.elements_given-loop-value-preserved
elements_given-loop-value-preserved g t c =
    let world = g.W.World.world c.args.self.now.names.now c.args.self.now.world.now in
    let each = element_given world (value_given world c.args.deep) in
    element-goes each c.args.values.now c.loop-value.value-index values.Undefined c.args.deep c.args.left.now
    c.loop-value.left c.put_element.new.left
    (map json_view c.loop-value.listed.items) (map json_view c.put_element.new.listed.items)
    (all_given each c.args.values.now)
    c.loop-value-test.true c.in_ok-put_element.ensures c.loop-value.invariant

pub elements_given-returns-in_err-put_element : goal.elements_given-returns-in_err-put_element
elements_given-returns-in_err-put_element g t c =
    let world = g.W.World.world c.args.self.now.names.now c.args.self.now.world.now in
    let each = element_given world (value_given world c.args.deep) in
    element-stops json_view list_of each c.args.values.now c.loop-value.value-index values.Undefined
    c.from_residual.result c.in_err-put_element.field-0.0 c.args.deep c.args.left.now c.loop-value.left
    c.put_element.new.left
    (map json_view c.loop-value.listed.items) (all_given each c.args.values.now)
    c.loop-value-test.true c.loop-value.invariant c.in_err-put_element.ensures c.from_residual.ensures.1

pub elements_given-returns : goal.elements_given-returns
elements_given-returns g t c =
    let world = g.W.World.world c.args.self.now.names.now c.args.self.now.world.now in
    let each = element_given world (value_given world c.args.deep) in
    list-ends list_of each c.args.values.now c.loop-value.value-index c.args.deep c.args.left.now c.loop-value.left
    (map json_view c.loop-value.listed.items) (json_view c.list.result) (all_given each c.args.values.now)
    (omega (arith, c.loop-value-test.false)) c.loop-value.invariant c.list.ensures

pub put_member-returns-in_err-json : goal.put_member-returns-in_err-json
put_member-returns-in_err-json g t c =
    let world = g.W.World.world c.args.self.now.names.now c.args.self.now.world.now in
    let way = value_given world c.args.deep in
    let before = map member_view c.args.listed.now.items in
    let p = c.args.property.now in
    stopped _ c.from_residual.result c.in_err-json.field-0.0 c.args.deep c.args.left.now c.value_given.new.left
    (mapped (λ parts. before ++ parts) (member_given world way p)) c.args.deep c.args.left.now (way p.value)
    (λ long. member-stops world way p c.args.deep c.args.left.now c.if-not-property.false
    (sym c.is_left_out.ensures ∙ c.if-is_left_out.false) long)
    c.from_residual.ensures.1 c.in_err-json.ensures

pub put_member-returns : goal.put_member-returns
put_member-returns g t c =
    let world = g.W.World.world c.args.self.now.names.now c.args.self.now.world.now in
    member-put world (value_given world c.args.deep)
    c.args.property.now c.args.listed.now.items c.push.new.self.items c.in_ok-json.json c.new.result c.args.deep
    c.args.left.now c.value_given.new.left
    c.if-not-property.false (sym c.is_left_out.ensures ∙ c.if-is_left_out.false) c.in_ok-json.ensures (grind arith)
    c.in_ok-push.ensures.items

pub members_given-loop-place-preserved : goal.members_given-loop-place-preserved
members_given-loop-place-preserved g t c =
    let world = g.W.World.world c.args.self.now.names.now c.args.self.now.world.now in
    let each = member_given world (value_given world c.args.deep) in
    property-goes each c.args.properties.now c.loop-place.place c.in-Some.property.now c.args.deep c.args.left.now
    c.loop-place.left c.put_member.new.left
    (map member_view c.loop-place.listed.items) (map member_view c.put_member.new.listed.items)
    (all_given each c.args.properties.now)
    c.in-Some.ensures c.in_ok-put_member.ensures c.loop-place.invariant

pub members_given-returns-in_err-put_member : goal.members_given-returns-in_err-put_member
members_given-returns-in_err-put_member g t c =
    let world = g.W.World.world c.args.self.now.names.now c.args.self.now.world.now in
    let each = member_given world (value_given world c.args.deep) in
    property-stops json_view object_of each c.args.properties.now c.loop-place.place c.in-Some.property.now
    c.from_residual.result c.in_err-put_member.field-0.0 c.args.deep c.args.left.now c.loop-place.left
    c.put_member.new.left
    (map member_view c.loop-place.listed.items) (all_given each c.args.properties.now)
    c.in-Some.ensures c.loop-place.invariant c.in_err-put_member.ensures c.from_residual.ensures.1

pub members_given-returns : goal.members_given-returns
members_given-returns g t c =
    let world = g.W.World.world c.args.self.now.names.now c.args.self.now.world.now in
    let each = member_given world (value_given world c.args.deep) in
    list-ends object_of each c.args.properties.now c.loop-place.place c.args.deep c.args.left.now c.loop-place.left
    (map member_view c.loop-place.listed.items) (json_view c.object.result) (all_given each c.args.properties.now)
    (omega (arith, c.loop-place-test.false, c.len-place-end.ensures)) c.loop-place.invariant c.object.ensures

pub object_given-returns-in_err-meet : goal.object_given-returns-in_err-meet
object_given-returns-in_err-meet g t c =
    let world = g.W.World.world c.args.self.now.names.now c.args.self.now.world.now in
    not-met json_view c.from_residual.result c.in_err-meet.field-0.0 c.args.deep c.args.left.now c.meet.new.left
    (object_given world c.args.deep c.args.a)
    (object-counts world c.args.deep c.args.a) c.in_err-meet.ensures c.from_residual.ensures.1

pub object_given-returns : goal.object_given-returns
object_given-returns g t c =
    let world = g.W.World.world c.args.self.now.names.now c.args.self.now.world.now in
    object-answers json_view world c.parts_given.result c.args.deep c.args.left.now c.meet.new.left
    c.parts_given.new.left c.args.a _
    (omega arith) c.in_ok-meet.ensures (c.find.ensures c.args.self.now.names.now) c.parts_given.ensures

pub object_given-returns-then-deep-eq0 : goal.object_given-returns-then-deep-eq0
object_given-returns-then-deep-eq0 g t c =
    let world = g.W.World.world c.args.self.now.names.now c.args.self.now.world.now in
    object-shallow world c.args.deep c.args.left.now c.args.a (omega arith)

pub put_member-returns-then-is_left_out : goal.put_member-returns-then-is_left_out
put_member-returns-then-is_left_out g t c =
    let world = g.W.World.world c.args.self.now.names.now c.args.self.now.world.now in
    member-out world (value_given world c.args.deep) c.args.property.now (map member_view c.args.listed.now.items)
    c.meet.result c.args.deep c.args.left.now c.meet.new.left
    c.if-not-property.false (sym c.is_left_out.ensures ∙ c.if-is_left_out.true) c.meet.ensures

pub put_member-returns-then-not-property : goal.put_member-returns-then-not-property
put_member-returns-then-not-property g t c =
    let world = g.W.World.world c.args.self.now.names.now c.args.self.now.world.now in
    member-none world (value_given world c.args.deep) c.args.property.now (map member_view c.args.listed.now.items)
    c.args.deep c.args.left.now c.if-not-property.true
