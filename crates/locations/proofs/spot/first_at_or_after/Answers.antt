use Rattle.std.proofs.Common.{◌∙◌}
use Rattle.locations.proofs.SearchLemmas.{first_at, none_first}
use Rattle.locations.proofs.spot.first_at_or_after.Goals as goal

pub returns-clause-found : goal.returns-clause-found
returns-clause-found c =
    c.spot_at.ensures ∙ first_at c.args.pos c.args.spots.now c.count_before.result c.count_before.ensures.split

pub returns-clause-none : goal.returns-clause-none
returns-clause-none c =
    none_first c.args.pos c.args.spots.now c.spot_at.result
    (c.spot_at.ensures ∙ first_at c.args.pos c.args.spots.now c.count_before.result c.count_before.ensures.split)
