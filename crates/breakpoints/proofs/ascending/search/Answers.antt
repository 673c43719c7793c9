use Rattle.breakpoints.proofs.AscendingLemmas.{searched}
use Rattle.breakpoints.proofs.ascending.search.Goals as goal

pub returns : goal.returns
returns g c =
    searched g.met.T.Ord.total c.args.values.now c.args.value.now c.binary_search.result c.requires
    c.binary_search.ensures.bound c.binary_search.ensures.position
