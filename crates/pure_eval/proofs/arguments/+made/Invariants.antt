use Rattle.std.proofs.Common.{ℕ, ◌+◌, ◌*◌, List}
use Rattle.cdp_json.specs.Views.{json_view, list_view, object_view}
use Rattle.pure_eval.specs.Arguments.{json_size, items_size, members_size}
use Rattle.pure_eval.proofs.ArgumentLemmas.{ElementsMade, MembersMade}
use Rattle.pure_eval.proofs.arguments.+made.Given as goal

abbrev pub decreases-make_json : goal.decreases-make_json
decreases-make_json g l = 3 * json_size (json_view l.json.now)

abbrev pub decreases-make_array : goal.decreases-make_array
decreases-make_array g l = 3 * items_size (list_view l.list.now) + 2

abbrev pub decreases-make_elements : goal.decreases-make_elements
decreases-make_elements g l = 3 * items_size (list_view l.list.now) + 1

abbrev pub decreases-make_object : goal.decreases-make_object
decreases-make_object g l = 3 * members_size (object_view l.object.now) + 2

abbrev pub decreases-make_properties : goal.decreases-make_properties
decreases-make_properties g l = 3 * members_size (object_view l.object.now) + 1

abbrev pub invariant-make_elements-loop-item : goal.invariant-make_elements-loop-item
invariant-make_elements-loop-item g l =
    (names : List (List ℕ))
    → ElementsMade (g.W.World.world names l.fn.world) l.item-items l.item-index l.values.items
    (g.W.World.world names l.world)

abbrev pub invariant-make_properties-loop-member : goal.invariant-make_properties-loop-member
invariant-make_properties-loop-member g l =
    (names : List (List ℕ))
    → MembersMade (g.W.World.world names l.fn.world) l.member-items l.member-index l.properties
    (g.W.World.world names l.world)
