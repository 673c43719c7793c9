use Rattle.std.proofs.Common.{◌≡◌, drop}
use Rattle.serde_json.specs.View.{items_view}
use Rattle.cdp_json.specs.Arguments.{arguments_from}
use Rattle.cdp_json.proofs.SafeLemmas.{arguments_behind}
use Rattle.cdp_json.proofs.calls.listed.Given as goal

abbrev pub invariant-loop-value : goal.invariant-loop-value
invariant-loop-value l =
    arguments_behind l.items.items (drop l.value-index l.values) ≡ arguments_from (items_view l.values)
