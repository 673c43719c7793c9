use Rattle.std.proofs.Common.{◌≡◌, drop}
use Rattle.serde_json.specs.View.{items_view, members_view}
use Rattle.cdp_json.specs.SafeValues.{safe_items_of, safe_members_of}
use Rattle.cdp_json.proofs.SafeLemmas.{items_behind, members_behind}
use Rattle.cdp_json.proofs.safe_values.+safe.Given as goal

abbrev pub invariant-safe_items-loop-value : goal.invariant-safe_items-loop-value
invariant-safe_items-loop-value l =
    items_behind l.items.items (drop l.value-index l.value-items) ≡ safe_items_of (items_view l.value-items)

abbrev pub invariant-safe_members-loop-name : goal.invariant-safe_members-loop-name
invariant-safe_members-loop-name l =
    members_behind l.members.items l.name-iterator ≡ safe_members_of (members_view l.pairs.entries)
