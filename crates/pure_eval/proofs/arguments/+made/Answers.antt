use Rattle.std.proofs.Common.{◌≡◌, ◌+◌, ◌*◌, ◌<◌, ◌≤◌, ap, sym, subst, ◌∙◌, arith, rules}
use Rattle.std.proofs.lemmas.Int.{to_z-of_z}
use Rattle.std.specs.Prelude.{FitsSigned}
use mir.Syntax.{w64}
use Rattle.cdp_json.specs.Json as json
use Rattle.cdp_json.specs.Json.{Items, Members}
use Rattle.cdp_json.specs.Views.{json_view, list_view, object_view}
use Rattle.cdp_json.proofs.ViewLemmas.{view_null, view_bool, view_number, view_text, view_list_of, view_object_of}
use Rattle.js_heap.specs.declared.value.Value.TheVariants as values
use Rattle.js_heap.specs.Keys.{put_property}
use Rattle.js_heap.specs.World.{fine}
use Rattle.js_semantics.specs.Evaluation.{make_json}
use Rattle.pure_eval.specs.Arguments.{json_of, json_size, items_size, members_size}
use Rattle.pure_eval.proofs.ArgumentLemmas.{json-tries, item-within, member-within, elements-next, elements-all, members-next, members-refused, members-all}
use Rattle.pure_eval.proofs.arguments.+made.Goals as goal

pub make_json-returns-in-Null-clause-made : goal.make_json-returns-in-Null-clause-made
make_json-returns-in-Null-clause-made g t c = λ names.
    ap (λ j. make_json (g.W.World.world names c.args.world.now) (json_of j)) (ap json_view c.in-Null.is ∙ view_null)

pub make_json-returns-in-Bool-clause-made : goal.make_json-returns-in-Bool-clause-made
make_json-returns-in-Bool-clause-made g t c = λ names.
    ap (λ j. make_json (g.W.World.world names c.args.world.now) (json_of j))
    (ap json_view c.in-Bool.is ∙ view_bool c.in-Bool.truth)

pub make_json-returns-in-Number-clause-made : goal.make_json-returns-in-Number-clause-made
make_json-returns-in-Number-clause-made g t c = λ names.
    let f : FitsSigned w64 c.in-Number.number = search rules in
    let w = g.W.World.world names c.args.world.now in
    ap (λ j. make_json w (json_of j)) (ap json_view c.in-Number.is ∙ view_number c.in-Number.number)
    ∙ ap (λ z. fine (values.Number z) w) (sym (to_z-of_z w64 c.in-Number.number f))

pub make_json-returns-in-Text-clause-made : goal.make_json-returns-in-Text-clause-made
make_json-returns-in-Text-clause-made g t c = λ names.
    json-tries (g.W.World.world names c.args.world.now) (g.W.World.world names c.make_text_of.new.world)
    _ _ c.make_text_of.result (ap json_of (ap json_view c.in-Text.is ∙ view_text c.in-Text.units))
    (c.make_text_of.ensures.made names)

pub make_json-returns-in-List-clause-made : goal.make_json-returns-in-List-clause-made
make_json-returns-in-List-clause-made g t c = λ names.
    json-tries (g.W.World.world names c.args.world.now) (g.W.World.world names c.make_array.new.world)
    _ _ c.make_array.result (ap json_of (ap json_view c.in-List.is ∙ view_list_of c.in-List.list))
    (c.make_array.ensures.made names)

pub make_json-returns-in-Object-clause-made : goal.make_json-returns-in-Object-clause-made
make_json-returns-in-Object-clause-made g t c = λ names.
    json-tries (g.W.World.world names c.args.world.now) (g.W.World.world names c.make_object.new.world)
    _ _ c.make_object.result (ap json_of (ap json_view c.in-Object.is ∙ view_object_of c.in-Object.object))
    (c.make_object.ensures.made names)

pub make_json-make_array-requires : goal.make_json-make_array-requires
make_json-make_array-requires g t c =
    let seen : json_size (json_view c.args.json.now) ≡ json_size (json.list (list_view c.in-List.list)) = ap json_size
    (ap json_view c.in-List.is ∙ view_list_of c.in-List.list) in
    let less : 3 * items_size (list_view c.in-List.list) + 2 < 3 * json_size (json_view c.args.json.now) = omega
    (arith, seen) in
    search rules

pub make_json-make_object-requires : goal.make_json-make_object-requires
make_json-make_object-requires g t c =
    let seen : json_size (json_view c.args.json.now) ≡ json_size (json.object (object_view c.in-Object.object))
    = ap json_size (ap json_view c.in-Object.is ∙ view_object_of c.in-Object.object) in
    let less : 3 * members_size (object_view c.in-Object.object) + 2 < 3 * json_size (json_view c.args.json.now) = omega
    (arith, seen) in
    search rules

pub make_elements-make_json-requires : goal.make_elements-make_json-requires
make_elements-make_json-requires g t c =
    let P : Items → Type 0 = λ is. json_size (json_view c.item-item.result) ≤ items_size is in
    let within : P (list_view c.args.list.now) = subst P c.as_slice-item-items.ensures
    (item-within c.as_slice-item-items.result.now c.loop-item.item-index c.item-item.result (omega arith)
    c.item-item.is)
    in
    let less : 3 * json_size (json_view c.item-item.result) < 3 * items_size (list_view c.args.list.now) + 1 = omega
    (arith, within) in
    search rules

pub make_properties-make_json-requires : goal.make_properties-make_json-requires
make_properties-make_json-requires g t c =
    let P : Members → Type 0 = λ ms. json_size (json_view c.member-item.result.value) ≤ members_size ms in
    let within : P (object_view c.args.object.now) = subst P c.as_slice-member-items.ensures
    (member-within c.as_slice-member-items.result.now c.loop-member.member-index c.member-item.result (omega arith)
    c.member-item.is)
    in
    let less : 3 * json_size (json_view c.member-item.result.value) < 3 * members_size (object_view c.args.object.now)
    + 1 = omega (arith, within) in
    search rules

pub make_elements-loop-item-preserved : goal.make_elements-loop-item-preserved
make_elements-loop-item-preserved g t c = λ names.
    elements-next (g.W.World.world names c.args.world.now) (g.W.World.world names c.loop-item.world)
    (g.W.World.world names c.make_json.new.world)
    c.as_slice-item-items.result.now c.loop-item.item-index c.item-item.result c.in_ok-value.value
    c.loop-item.values.items _
    (c.loop-item.invariant names) (omega arith) c.item-item.is (c.in_ok-value.ensures.made names)
    (c.in_ok-value.ensures.keeps names) c.in_ok-push.ensures.items

pub make_elements-returns-clause-made : goal.make_elements-returns-clause-made
make_elements-returns-clause-made g t c = λ names.
    elements-all (g.W.World.world names c.args.world.now) (g.W.World.world names c.loop-item.world)
    c.as_slice-item-items.result.now _ c.loop-item.item-index c.loop-item.values.items
    (c.loop-item.invariant names) (omega arith) c.as_slice-item-items.ensures
    ∙ ap (λ vs. fine vs (g.W.World.world names c.loop-item.world)) (sym c.from_vec.ensures)

pub make_properties-loop-member-preserved : goal.make_properties-loop-member-preserved
make_properties-loop-member-preserved g t c = λ names.
    members-next (g.W.World.world names c.args.world.now) (g.W.World.world names c.loop-member.world)
    (g.W.World.world names c.make_json.new.world)
    c.as_slice-member-items.result.now c.loop-member.member-index c.member-item.result c.in_ok-value.value
    c.loop-member.properties _
    (c.loop-member.invariant names) (omega arith) c.member-item.is (c.in_ok-value.ensures.made names)
    (c.in_ok-value.ensures.keeps names)
    (c.in_ok-put.ensures.value
    ∙ ap (λ k. put_property c.loop-member.properties k c.in_ok-value.value) c.as_slice.ensures)

pub make_properties-returns-clause-made : goal.make_properties-returns-clause-made
make_properties-returns-clause-made g t c = λ names.
    members-all (g.W.World.world names c.args.world.now) (g.W.World.world names c.loop-member.world)
    c.as_slice-member-items.result.now _ c.loop-member.member-index c.loop-member.properties
    (c.loop-member.invariant names) (omega arith) c.as_slice-member-items.ensures

pub make_properties-returns-in_err-value-clause-made : goal.make_properties-returns-in_err-value-clause-made
make_properties-returns-in_err-value-clause-made g t c = λ names.
    let refused = members-refused (g.W.World.world names c.args.world.now) (g.W.World.world names c.loop-member.world)
    (g.W.World.world names c.make_json.new.world) c.as_slice-member-items.result.now
    (object_view c.args.object.now) c.loop-member.member-index c.member-item.result c.loop-member.properties _
    (c.loop-member.invariant names) (omega arith) c.member-item.is c.as_slice-member-items.ensures
    (c.in_err-value.ensures.made names) in
    search (rules, refused)
