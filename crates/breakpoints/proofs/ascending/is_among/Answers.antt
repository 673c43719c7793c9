use Rattle.std.proofs.Common.{◌∙◌}
use Rattle.breakpoints.proofs.AscendingLemmas.{has-searched}
use Rattle.breakpoints.proofs.ascending.is_among.Goals as goal

pub returns : goal.returns
returns g c =
    c.is_ok.ensures.value
    ∙ has-searched g.met.T.Ord.total c.args.values.now c.args.value.now c.search.result c.search.ensures
