use Rattle.std.proofs.Common.{◌<◌, length, sym, ap, ◌∙◌, subst, option_map, arith, rules}
use Rattle.json.specs.Tree.{json_tokens, items_tokens, members_tokens}
use Rattle.json.specs.Value as trees
use Rattle.json.proofs.Trees.{item_smaller, member_smaller}
use Rattle.serde_json.specs.Data.{no_members, put}
use Rattle.serde_json.specs.Read.{of_json, of_items, of_members}
use Rattle.serde_json.specs.View.{view, members_view}
use Rattle.cdp_json.proofs.TreeLemmas.{items_more, items_refused, items_all, members_more, members_refused, members_all}
use Rattle.cdp_json.proofs.trees.+trees.Goals as goal

pub values_of-loop-item-preserved : goal.values_of-loop-item-preserved
values_of-loop-item-preserved t c =
    items_more c.deref-item-items.result.now c.loop-item.item-index c.item-item.result c.loop-item.values.items _
    c.in-Some.value
    (omega arith)
    (ap (option_map view) (sym c.in-Some.is)
    ∙ c.in_ok-value.ensures
    ∙ ap (λ v. of_json (trees.value_view v)) c.item-item.is)
    c.in_ok-push-in-Some.ensures.items
    ∙ c.loop-item.invariant

pub values_of-returns-in-None : goal.values_of-returns-in-None
values_of-returns-in-None t c =
    items_refused c.deref-item-items.result.now c.loop-item.item-index c.item-item.result c.loop-item.values.items
    (omega arith)
    (ap (option_map view) (sym c.in-None.is)
    ∙ c.in_ok-value.ensures
    ∙ ap (λ v. of_json (trees.value_view v)) c.item-item.is)
    ∙ c.loop-item.invariant
    ∙ ap (λ ts. of_items (trees.items_view ts)) c.deref-item-items.ensures.value

pub values_of-returns : goal.values_of-returns
values_of-returns t c =
    items_all c.deref-item-items.result.now c.loop-item.item-index c.loop-item.values.items (omega arith)
    ∙ c.loop-item.invariant
    ∙ ap (λ ts. of_items (trees.items_view ts)) c.deref-item-items.ensures.value

pub map_of-loop-member-preserved : goal.map_of-loop-member-preserved
map_of-loop-member-preserved t c =
    members_more c.deref-member-items.result.now c.loop-member.member-index c.member-item.result
    (members_view c.loop-member.values.entries) _ c.in-Some.value
    (omega arith)
    (ap (option_map view) (sym c.in-Some.is)
    ∙ c.in_ok-value.ensures
    ∙ ap (λ m. of_json (trees.value_view m.1)) c.member-item.is)
    (c.in_ok-put_named-in-Some.ensures
    ∙ ap (λ m. put m.0.now (view c.in-Some.value) (members_view c.loop-member.values.entries)) c.member-item.is)
    ∙ c.loop-member.invariant

pub map_of-returns-in-None : goal.map_of-returns-in-None
map_of-returns-in-None t c =
    members_refused c.deref-member-items.result.now c.loop-member.member-index c.member-item.result
    (members_view c.loop-member.values.entries)
    (omega arith)
    (ap (option_map view) (sym c.in-None.is)
    ∙ c.in_ok-value.ensures
    ∙ ap (λ m. of_json (trees.value_view m.1)) c.member-item.is)
    ∙ c.loop-member.invariant
    ∙ ap (λ ms. of_members (trees.members_view ms) no_members) c.deref-member-items.ensures.value

pub map_of-returns : goal.map_of-returns
map_of-returns t c =
    members_all c.deref-member-items.result.now c.loop-member.member-index (members_view c.loop-member.values.entries)
    (omega arith)
    ∙ c.loop-member.invariant
    ∙ ap (λ ms. of_members (trees.members_view ms) no_members) c.deref-member-items.ensures.value

pub values_of-value_of-requires : goal.values_of-value_of-requires
values_of-value_of-requires t c =
    let xs = c.deref-item-items.result.now in
    let x = c.item-item.result in
    let size = length (json_tokens (trees.value_view x)) in
    let smaller : size < length (items_tokens (trees.items_view c.args.items.now.items)) =
    subst (λ ys. size < length (items_tokens (trees.items_view ys))) c.deref-item-items.ensures.value
    (subst (λ y. length (json_tokens (trees.value_view y)) < length (items_tokens (trees.items_view xs)))
    (sym c.item-item.is)
    (item_smaller xs c.loop-item.item-index x (omega arith))) in
    search rules

pub map_of-value_of-requires : goal.map_of-value_of-requires
map_of-value_of-requires t c =
    let xs = c.deref-member-items.result.now in
    let x = c.member-item.result in
    let size = length (json_tokens (trees.value_view x.1)) in
    let smaller : size < length (members_tokens (trees.members_view c.args.members.now.items)) =
    subst (λ ys. size < length (members_tokens (trees.members_view ys))) c.deref-member-items.ensures.value
    (subst (λ y. length (json_tokens (trees.value_view y.1)) < length (members_tokens (trees.members_view xs)))
    (sym c.member-item.is)
    (member_smaller xs c.loop-member.member-index x (omega arith))) in
    search rules
