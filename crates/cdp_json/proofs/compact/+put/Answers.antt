use Rattle.std.proofs.Common.{◌≡◌, ◌∷◌, [], ◌++◌, ◌<◌, List, map, length, get_or, string_bytes, ap, sym, ◌∙◌, arith, subst}
use Rattle.cdp_json.specs.declared.value.Json.TheViews as views
use Rattle.cdp_json.specs.declared.value.Member.{Member}
use Rattle.cdp_json.specs.Compact.{string_text, with_commas, item_texts, members_text}
use Rattle.cdp_json.specs.KeyOrder.{order_of}
use Rattle.cdp_json.proofs.ViewLemmas.{list_items, object_members}
use Rattle.cdp_json.proofs.TextLemmas.{text_of_item, text_at, pieces_more, pieces_all, item_texts-view, at_place, all_members, member_pieces}
use Rattle.cdp_json.proofs.compact.+put.Goals as goal

pub put_items-loop-turn-preserved : goal.put_items-loop-turn-preserved
put_items-loop-turn-preserved t c =
    pieces_more text_of_item c.deref-item-items.result.now c.loop-turn.turn c.item-item.result
    (string_bytes c.args.out.now) _ _ _ (omega arith) c.loop-turn.invariant c.in_ok-put_comma.ensures
    (c.in_ok-put_json.ensures ∙ ap (λ j. string_bytes c.put_comma.new.out ++ text_of_item j) c.item-item.is)

pub put_items-returns : goal.put_items-returns
put_items-returns t c =
    pieces_all text_of_item c.deref-item-items.result.now c.loop-turn.turn (string_bytes c.args.out.now) _ (omega arith)
    c.loop-turn.invariant
    ∙ ap (λ ts. string_bytes c.args.out.now ++ with_commas ts)
    (ap (map text_of_item) c.deref-item-items.ensures.value
    ∙ sym (ap item_texts (list_items c.args.list.now) ∙ item_texts-view c.args.list.now.items.items))

pub put_members-loop-turn-preserved : goal.put_members-loop-turn-preserved
put_members-loop-turn-preserved t c =
    let ms : List Member = (views.out-JsonObject c.args.object.now).members.items in
    let lt : c.loop-turn.turn < length c.deref-place-items.result.now = omega arith in
    let listed : c.deref-place-items.result.now ≡ c.in_ok-order.order.items = c.deref-place-items.ensures.value in
    let within = subst (λ ps. get_or ps c.loop-turn.turn 0 < length ms) (sym listed)
    (subst (λ ns. get_or c.in_ok-order.order.items c.loop-turn.turn 0 < length ns) c.deref.ensures.value
    (c.in_ok-order.ensures.within c.loop-turn.turn 0 (subst (λ ps. c.loop-turn.turn < length ps) listed lt)))
    in
    pieces_more (text_at ms) c.deref-place-items.result.now c.loop-turn.turn 0 (string_bytes c.args.out.now)
    _ _ _ lt c.loop-turn.invariant c.in_ok-put_comma.ensures
    (member_pieces _ _ _ c.index-member.result.now
    (c.in_ok-put_key.ensures
    ∙ ap (λ k. (string_bytes c.put_comma.new.out ++ string_text k) ++ 58 ∷ []) c.as_slice.ensures)
    c.in_ok-put_json.ensures
    ∙ ap (λ s. string_bytes c.put_comma.new.out ++ s)
    (sym (at_place ms (get_or c.deref-place-items.result.now c.loop-turn.turn 0)
    c.index-member.result.now within c.index-member.ensures)))

pub put_members-returns : goal.put_members-returns
put_members-returns t c =
    let ms : List Member = (views.out-JsonObject c.args.object.now).members.items in
    pieces_all (text_at ms) c.deref-place-items.result.now c.loop-turn.turn (string_bytes c.args.out.now) _
    (omega arith) c.loop-turn.invariant
    ∙ ap (λ s. string_bytes c.args.out.now ++ s)
    (ap (λ ps. with_commas (map (text_at ms) ps))
    (c.deref-place-items.ensures.value
    ∙ c.in_ok-order.ensures.order
    ∙ ap (λ ns. order_of (map (λ m. m.key) ns)) c.deref.ensures.value)
    ∙ all_members ms ∙ ap members_text (sym (object_members c.args.object.now)))
