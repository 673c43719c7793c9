use Rattle.std.proofs.Common.{◌≡◌, ◌++◌, string_bytes, map, take}
use Rattle.cdp_json.specs.Compact.{with_commas}
use Rattle.cdp_json.specs.declared.value.Json.TheViews as views
use Rattle.cdp_json.proofs.TextLemmas.{text_of_item, text_at}
use Rattle.cdp_json.proofs.compact.+put.Given as goal

abbrev pub invariant-put_items-loop-turn : goal.invariant-put_items-loop-turn
invariant-put_items-loop-turn l =
    string_bytes l.out ≡ string_bytes l.fn.out ++ with_commas (map text_of_item (take l.turn l.item-items))

abbrev pub invariant-put_members-loop-turn : goal.invariant-put_members-loop-turn
invariant-put_members-loop-turn l =
    string_bytes l.out ≡ string_bytes l.fn.out ++ with_commas
    (map (text_at (views.out-JsonObject l.object).members.items) (take l.turn l.place-items))
