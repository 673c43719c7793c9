use Rattle.std.proofs.Common.{◌∙◌, sym}
use Rattle.breakpoints.proofs.HoldingLemmas.{all-more, not-all}
use Rattle.breakpoints.proofs.place_index.holds_all.Goals as goal

pub returns-then-not-holds : goal.returns-then-not-holds
returns-then-not-holds c =
    not-all c.args.session c.args.places.now c.loop-place.place-index _ c.args.pairs.now c.loop-place-test.true
    (sym c.holds.ensures ∙ c.if-not-holds.true)

pub loop-place-preserved : goal.loop-place-preserved
loop-place-preserved c =
    all-more c.args.session c.args.places.now c.loop-place.place-index _ c.args.pairs.now c.loop-place-test.true
    (sym c.holds.ensures ∙ c.if-not-holds.false) c.loop-place.invariant
