use Rattle.std.proofs.Common.{◌∙◌, sym}
use Rattle.breakpoints.proofs.IndexedLemmas.{none-stands, one-stands}
use Rattle.breakpoints.proofs.breakpoints.take_unless_stands.Goals as goal

pub returns-then-not-stands : goal.returns-then-not-stands
returns-then-not-stands c =
    none-stands c.args.place c.args.list.now c.args.index.now c.remove.new.self
    (sym c.stands.ensures ∙ c.if-not-stands.true) c.remove.ensures

pub returns-else-not-stands : goal.returns-else-not-stands
returns-else-not-stands c =
    one-stands c.args.place c.args.list.now c.args.index.now (sym c.stands.ensures ∙ c.if-not-stands.false)
