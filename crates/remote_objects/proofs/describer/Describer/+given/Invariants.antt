use Rattle.std.proofs.Common.{◌+◌, ◌*◌, drop}
use Rattle.std.specs.Prelude.{map}
use Rattle.cdp_json.specs.Views.{json_view, member_view}
use Rattle.remote_objects.specs.ByValue.{all_given, element_given, member_given, value_given}
use Rattle.remote_objects.proofs.GivenLemmas.{Goes}
use Rattle.remote_objects.proofs.describer.Describer.+given.Given as goal

abbrev pub decreases-object_given : goal.decreases-object_given
decreases-object_given g l = 6 * l.deep

abbrev pub decreases-value_given : goal.decreases-value_given
decreases-value_given g l = 6 * l.deep + 1

abbrev pub decreases-put_element : goal.decreases-put_element
decreases-put_element g l = 6 * l.deep + 2

abbrev pub decreases-put_member : goal.decreases-put_member
decreases-put_member g l = 6 * l.deep + 2

abbrev pub decreases-elements_given : goal.decreases-elements_given
decreases-elements_given g l = 6 * l.deep + 3

abbrev pub decreases-members_given : goal.decreases-members_given
decreases-members_given g l = 6 * l.deep + 3

abbrev pub decreases-parts_given : goal.decreases-parts_given
decreases-parts_given g l = 6 * l.deep + 4

abbrev pub invariant-elements_given-loop-value : goal.invariant-elements_given-loop-value
invariant-elements_given-loop-value g l =
    let world = g.W.World.world l.self.names.now l.self.world.now in
    let each = element_given world (value_given world l.deep) in
    Goes l.deep l.initial.left l.left (map json_view l.listed.items) (all_given each (drop l.value-index l.values))
    (all_given each l.values)

abbrev pub invariant-members_given-loop-place : goal.invariant-members_given-loop-place
invariant-members_given-loop-place g l =
    let world = g.W.World.world l.self.names.now l.self.world.now in
    let each = member_given world (value_given world l.deep) in
    Goes l.deep l.initial.left l.left (map member_view l.listed.items) (all_given each (drop l.place l.properties))
    (all_given each l.properties)
