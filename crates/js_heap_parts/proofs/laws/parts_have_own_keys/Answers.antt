use Rattle.js_heap_parts.proofs.LawLemmas.{have-own-keys}
use Rattle.js_heap_parts.proofs.laws.parts_have_own_keys.Goals as goal

pub returns : goal.returns
returns c = have-own-keys
