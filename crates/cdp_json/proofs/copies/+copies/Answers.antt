use Rattle.std.proofs.Common.{ap, sym, ◌∙◌, arith}
use Rattle.cdp_json.specs.Json.{items_of, members_of}
use Rattle.cdp_json.specs.Views.{json_view, member_view, items_view, members_view}
use Rattle.cdp_json.proofs.ViewLemmas.{list_items, object_members}
use Rattle.cdp_json.proofs.CopyLemmas.{copies_more, copies_all}
use Rattle.cdp_json.proofs.copies.+copies.Goals as goal

pub copied_items-loop-item-preserved : goal.copied_items-loop-item-preserved
copied_items-loop-item-preserved t c =
    copies_more json_view c.deref-item-items.result.now c.loop-item.item-index c.item-item.result _ _ _ (omega arith)
    c.loop-item.invariant c.in_ok-push.ensures.items
    (c.in_ok-copied.ensures ∙ ap json_view c.item-item.is)

pub copied_items-returns : goal.copied_items-returns
copied_items-returns t c =
    ap items_of
    (copies_all json_view c.deref-item-items.result.now c.loop-item.item-index _ (omega arith)
    c.loop-item.invariant)
    ∙ ap items_view c.deref-item-items.ensures.value ∙ sym (list_items c.args.values.now)

pub copied_members-returns : goal.copied_members-returns
copied_members-returns t c =
    ap members_of
    (copies_all member_view c.deref-member-items.result.now c.loop-member.member-index _ (omega arith)
    c.loop-member.invariant)
    ∙ ap members_view c.deref-member-items.ensures.value ∙ sym (object_members c.args.pairs.now)
