use Rattle.js_heap_parts.proofs.LawLemmas.{have-properties}
use Rattle.js_heap_parts.proofs.laws.parts_have_properties.Goals as goal

pub returns : goal.returns
returns c = have-properties
