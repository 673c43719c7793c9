use Rattle.std.proofs.Common.{◌∙◌, sym}
use Rattle.breakpoints.proofs.HoldingLemmas.{holds-contains}
use Rattle.breakpoints.proofs.place_index.holds.Goals as goal

pub returns : goal.returns
returns c = c.is_among.ensures ∙ sym (holds-contains c.args.session c.args.place c.args.pairs.now)
