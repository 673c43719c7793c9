use Rattle.std.proofs.Common.{rules, ◌≡◌, ◌∷◌, [], ◌++◌, ◌+◌, ◌<◌, List, ℕ, Bor, map, length, ap, sym, ◌∙◌, arith, append_assoc, append-nil, subst, ◌≤◌}
use Rattle.std.specs.Prelude.{All}
use Rattle.std.specs.List.{range_with_len}
use Rattle.std.proofs.lemmas.List.{get_or-map, length-map, map-append}
use Rattle.std.proofs.lemmas.Result.{IfOk-weaker}
use Rattle.cdp_json.specs.KeyOrder.{insert_by, key_at}
use Rattle.cdp_json.proofs.OrderLemmas.{Placed, insert_place, still_placed, in_order-place, order-ascending, places_below, range-below}
use Rattle.cdp_json.proofs.key_order.key_order.Goals as goal

pub returns-then-ascends-clause-order : goal.returns-then-ascends-clause-order
returns-then-ascends-clause-order c =
    let keys = map (λ m. m.key) c.args.members.now in
    let order = order-ascending keys (sym c.ascends.ensures ∙ c.if-ascends.true)
    ∙ ap (range_with_len 0) (length-map c.args.members.now (λ m. m.key)) in
    rw order c.places_to.ensures

pub returns-then-ascends-clause-within : goal.returns-then-ascends-clause-within
returns-then-ascends-clause-within c =
    IfOk-weaker c.places_to.result (λ places. places.items ≡ range_with_len 0 (length c.args.members.now))
    (λ places. All (λ place. place < length c.args.members.now) places.items)
    (λ places is. subst (λ ps. All (λ place. place < length c.args.members.now) ps) (sym is)
    (range-below 0 (length c.args.members.now) _ (omega arith)))
    c.places_to.ensures

pub loop-place-preserved : goal.loop-place-preserved
loop-place-preserved c =
    let keys = map (λ m. m.key) c.args.members.now in
    let here : Bor (List ℕ) × ℕ = (c.as_slice.result, c.loop-place.place) in
    let lt : c.loop-place.place < length c.args.members.now = omega arith in
    let key : c.as_slice.result.now ≡ key_at keys c.loop-place.place = c.as_slice.ensures
    ∙ ap (λ m. m.key) c.index-members-place.is
    ∙ sym (get_or-map (λ m. m.key) c.args.members.now c.loop-place.place _ [] lt) in
    let old = c.loop-place.invariant in
    let now : c.insert.new.self.keys ≡ _ = c.in_ok-insert.ensures.keys in (
      ap (map (λ k. k.1)) now
          ∙ insert_place keys here c.loop-place.ordered.keys key old.1
          ∙ ap (insert_by (key_at keys) c.loop-place.place) old.0
          ∙ sym (in_order-place (key_at keys) c.loop-place.place),
      subst (Placed keys (c.loop-place.place + 1)) (sym now)
          (still_placed keys here c.loop-place.ordered.keys key old.1),
    )

pub loop-entry-preserved : goal.loop-entry-preserved
loop-entry-preserved c =
    let old = c.loop-entry.invariant in
    let e = c.in-Some.entry.now in (
      old.0 ++ e ∷ [],
      old.1 ∙ ap (λ es. old.0 ++ es) c.in-Some.ensures.steps ∙ sym (append_assoc old.0 (e ∷ []) c.next.new.self),
      c.in_ok-push.ensures.items ∙ ap (λ ps. ps ++ e.1 ∷ []) old.2 ∙ sym (map-append (λ k. k.1) old.0 (e ∷ [])),
    )

pub returns-clause-within : goal.returns-clause-within
returns-clause-within c =
    let last = c.loop-entry.invariant in
    let began : c.iter-entry-items.result ≡ c.loop-place.ordered.keys = c.iter-entry-items.ensures.rest in
    let ended : c.loop-entry.entry-iterator ≡ [] = search (rules, c.in-None.ensures.steps, c.in-None.ensures.goes) in
    let all : c.loop-place.ordered.keys ≡ last.0 = search (rules, began, ended, last.1, append-nil) in
    let here : c.loop-place.place ≤ length c.args.members.now = omega arith in
    let below = places_below (map (λ m. m.key) c.args.members.now)
    c.loop-place.place c.loop-place.ordered.keys c.loop-place.invariant.1 in
    let listed : c.loop-entry.places.items ≡ map (λ k. k.1) c.loop-place.ordered.keys = last.2
    ∙ ap (map (λ k. k.1)) (sym all) in
    subst (λ ps. All (λ place. place < length c.args.members.now) ps) (sym listed)
    (λ k d lt. omega (arith, below k d lt, here))
