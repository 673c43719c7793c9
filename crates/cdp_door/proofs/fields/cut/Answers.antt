use Rattle.cdp_door.proofs.PartLemmas.{cut-first, cut-shorter, cut-last}
use Rattle.cdp_door.proofs.fields.cut.Goals as goal

pub returns-clause-first : goal.returns-clause-first
returns-clause-first c = cut-first c.args.value.now c.unit_halves.result c.unit_halves.ensures

pub returns-clause-shorter : goal.returns-clause-shorter
returns-clause-shorter c = cut-shorter c.args.value.now c.unit_halves.result c.unit_halves.ensures

pub returns-clause-last : goal.returns-clause-last
returns-clause-last c = cut-last c.args.value.now c.unit_halves.result c.unit_halves.ensures
