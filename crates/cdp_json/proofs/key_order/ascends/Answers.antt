use Rattle.std.proofs.Common.{◌∷◌, map, ap, sym, ◌∙◌, arith, true, false}
use Rattle.cdp_json.specs.KeyOrder.{ascends}
use Rattle.cdp_json.proofs.OrderLemmas.{falls, greater, only-one, rises}
use Rattle.cdp_json.proofs.key_order.ascends.Goals as goal

pub loop-member-init : goal.loop-member-init
loop-member-init c = ap (λ ms. ascends (map (λ m. m.key) ms)) c.in-Some.ensures.cases.0

pub returns-then-gt : goal.returns-then-gt
returns-then-gt c =
    let falling = sym (greater c.as_slice.result.now c.as_slice-in-Some-split_first.result.now)
    ∙ sym c.gt.ensures
    ∙ c.if-gt.true in
    sym (c.loop-member.invariant
    ∙ ap (λ ms. ascends (c.loop-member.last.now.key ∷ map (λ m. m.key) ms)) c.in-Some-split_first.ensures.cases.0
    ∙ falls c.loop-member.last.now.key c.in-Some-split_first.member.now.key
    (map (λ m. m.key) c.in-Some-split_first.others.now)
    (rw (sym c.as_slice.ensures, sym c.as_slice-in-Some-split_first.ensures) falling))

pub loop-member-smaller : goal.loop-member-smaller
loop-member-smaller c = let parts = c.in-Some-split_first.ensures.cases.1 in omega (arith, parts)

pub loop-member-preserved : goal.loop-member-preserved
loop-member-preserved c =
    let rising = sym (greater c.as_slice.result.now c.as_slice-in-Some-split_first.result.now)
    ∙ sym c.gt.ensures
    ∙ c.if-gt.false in
    c.loop-member.invariant
    ∙ ap (λ ms. ascends (c.loop-member.last.now.key ∷ map (λ m. m.key) ms)) c.in-Some-split_first.ensures.cases.0
    ∙ rises c.loop-member.last.now.key c.in-Some-split_first.member.now.key
    (map (λ m. m.key) c.in-Some-split_first.others.now)
    (rw (sym c.as_slice.ensures, sym c.as_slice-in-Some-split_first.ensures) rising)

pub returns : goal.returns
returns c =
    sym (c.loop-member.invariant
    ∙ only-one (λ m. m.key)
    c.loop-member.last.now.key c.loop-member.rest.now c.in_default-split_first.ensures.cases)
