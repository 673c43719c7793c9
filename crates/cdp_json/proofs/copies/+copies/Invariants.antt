use Rattle.std.proofs.Common.{◌≡◌, map, take}
use Rattle.cdp_json.specs.Views.{json_view, member_view}
use Rattle.cdp_json.proofs.copies.+copies.Given as goal

abbrev pub invariant-copied_items-loop-item : goal.invariant-copied_items-loop-item
invariant-copied_items-loop-item l = map json_view l.items.items ≡ map json_view (take l.item-index l.item-items)

abbrev pub invariant-copied_members-loop-member : goal.invariant-copied_members-loop-member
invariant-copied_members-loop-member l =
    map member_view l.members.items ≡ map member_view (take l.member-index l.member-items)
