use Rattle.std.proofs.Common.{[], ◌∷◌, ◌++◌, map, option_map, ap, sym, ◌∙◌, arith}
use Rattle.cdp_text.specs.Units.{utf16_of}
use Rattle.serde_json.specs.View.{view, items_view}
use Rattle.cdp_json.specs.SafeValues.{safe_value_of, safe_items_of}
use Rattle.cdp_json.specs.Views.{json_view, member_view}
use Rattle.cdp_json.proofs.SafeLemmas.{items_more, items_all, members_behind, members_more, members_all}
use Rattle.cdp_json.proofs.safe_values.+safe.Goals as goal

pub safe_items-loop-value-preserved : goal.safe_items-loop-value-preserved
safe_items-loop-value-preserved t c =
    items_more c.deref-value-items.result.now c.loop-value.value-index c.value-item.result c.loop-value.items.items _
    c.in-Some.item
    (omega arith)
    (ap (option_map json_view) (sym c.in-Some.is)
    ∙ c.in_ok-item.ensures
    ∙ ap (λ v. safe_value_of (view v)) c.value-item.is)
    c.in_ok-push-in-Some.ensures.items
    ∙ c.loop-value.invariant

pub safe_items-returns : goal.safe_items-returns
safe_items-returns t c =
    items_all c.deref-value-items.result.now c.loop-value.value-index c.loop-value.items.items (omega arith)
    ∙ c.loop-value.invariant ∙ ap (λ vs. safe_items_of (items_view vs)) c.deref-value-items.ensures.value

pub safe_members-loop-name-preserved : goal.safe_members-loop-name-preserved
safe_members-loop-name-preserved t c =
    members_more (c.in-Some.name.now, c.in-Some.value.now)
    c.next.new.self c.loop-name.members.items _ c.in-Some-2.value
    (ap (option_map json_view) (sym c.in-Some-2.is) ∙ c.in_ok-value.ensures)
    (c.in_ok-put_named-in-Some-2.ensures
    ∙ ap (λ s. map member_view c.loop-name.members.items ++ (utf16_of s, json_view c.in-Some-2.value) ∷ [])
    c.as_str.ensures.value)
    ∙ sym (ap (members_behind c.loop-name.members.items) c.in-Some.ensures.steps) ∙ c.loop-name.invariant

pub safe_members-returns : goal.safe_members-returns
safe_members-returns t c =
    members_all c.loop-name.members.items
    ∙ sym (ap (members_behind c.loop-name.members.items) c.in-None.ensures.steps.0)
    ∙ c.loop-name.invariant
