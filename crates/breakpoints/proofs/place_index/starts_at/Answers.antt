use Rattle.std.proofs.Common.{sym, ◌∙◌}
use Rattle.breakpoints.proofs.HoldingLemmas.{first-at, first-none}
use Rattle.breakpoints.proofs.place_index.starts_at.Goals as goal

pub returns-in-Some : goal.returns-in-Some
returns-in-Some c =
    c.is_at.ensures ∙ first-at c.args.place c.args.pairs.now c.in-Some.pair.now (sym c.in-Some.ensures.value)

pub returns-in-None : goal.returns-in-None
returns-in-None c = sym (first-none c.args.place c.args.pairs.now (sym c.in-None.ensures.value))
