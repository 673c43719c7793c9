use Rattle.js_heap_parts.proofs.LawLemmas.{have-elements}
use Rattle.js_heap_parts.proofs.laws.parts_have_elements.Goals as goal

pub returns : goal.returns
returns c = have-elements
