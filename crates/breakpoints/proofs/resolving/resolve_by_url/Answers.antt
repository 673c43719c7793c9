use Rattle.std.proofs.Common.{ap, ◌∙◌, ◌++◌, drop, ◌+◌}
use Rattle.breakpoints.specs.Resolving.{resolved_by_url}
use Rattle.breakpoints.proofs.ResolvingLemmas.{resolved-more}
use Rattle.breakpoints.proofs.resolving.resolve_by_url.Goals as goal

pub loop-index-preserved : goal.loop-index-preserved
loop-index-preserved c =
    ap (λ ps. ps ++ resolved_by_url c.args.url.now c.args.pos (drop (c.loop-index.index + 1) c.args.scripts.now))
    c.in_ok-push_resolved.ensures
    ∙ resolved-more c.args.url.now c.args.pos c.args.scripts.now c.loop-index.index c.index-scripts-index.result
    c.loop-index.places.items c.resolve_of-resolved.result c.loop-index-test.true c.index-scripts-index.is
    c.resolve_of-resolved.ensures c.loop-index.invariant
