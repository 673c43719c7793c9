use Rattle.std.proofs.Common.{◌≡◌, drop, length}
use Rattle.json.specs.Tree.{json_tokens, items_tokens, members_tokens}
use Rattle.json.specs.Value as trees
use Rattle.serde_json.specs.Data.{no_members}
use Rattle.serde_json.specs.Read.{of_items, of_members}
use Rattle.serde_json.specs.View.{members_view}
use Rattle.cdp_json.proofs.TreeLemmas.{items_behind, members_behind}
use Rattle.cdp_json.proofs.trees.+trees.Given as goal

abbrev pub decreases-value_of : goal.decreases-value_of
decreases-value_of l = length (json_tokens (trees.value_view l.tree.now))

abbrev pub decreases-values_of : goal.decreases-values_of
decreases-values_of l = length (items_tokens (trees.items_view l.items.now.items))

abbrev pub decreases-map_of : goal.decreases-map_of
decreases-map_of l = length (members_tokens (trees.members_view l.members.now.items))

abbrev pub invariant-values_of-loop-item : goal.invariant-values_of-loop-item
invariant-values_of-loop-item l =
    items_behind l.values.items (drop l.item-index l.item-items) ≡ of_items (trees.items_view l.item-items)

abbrev pub invariant-map_of-loop-member : goal.invariant-map_of-loop-member
invariant-map_of-loop-member l =
    members_behind (members_view l.values.entries) (drop l.member-index l.member-items) ≡ of_members
    (trees.members_view l.member-items)
    no_members
