use Rattle.js_machine_rows.proofs.ReadingLemmas.{element-if}
use Rattle.js_machine_rows.proofs.reading.element_at.Goals as goal

pub returns : goal.returns
returns c = element-if c.args.elements.now c.args.at c.element.result c.requires c.element.ensures
