use Rattle.breakpoints.proofs.ResolvingLemmas.{resolved-here}
use Rattle.breakpoints.proofs.resolving.resolve_at.Goals as goal

pub returns-then-script-place : goal.returns-then-script-place
returns-then-script-place c =
    resolved-here c.args.place c.args.scripts.now c.loop-index.index c.index-scripts-index.result c.resolve_in.result
    c.loop-index-test.true c.index-scripts-index.is c.if-script-place.true c.resolve_in.ensures
    c.loop-index.invariant
