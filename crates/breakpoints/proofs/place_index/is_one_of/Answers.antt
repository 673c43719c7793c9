use Rattle.std.proofs.Common.{◌∙◌, sym}
use Rattle.breakpoints.proofs.AscendingLemmas.{has-found}
use Rattle.breakpoints.proofs.PlaceLemmas.{place_total, has-contains}
use Rattle.breakpoints.proofs.place_index.is_one_of.Goals as goal

pub returns-then-is_ok : goal.returns-then-is_ok
returns-then-is_ok c =
    sym (has-contains c.args.place c.args.places.now
    ∙ has-found place_total c.args.places.now c.args.place c.binary_search.result c.binary_search.ensures.bound
    c.binary_search.ensures.position (sym c.is_ok.ensures.value ∙ c.if-is_ok.true))
