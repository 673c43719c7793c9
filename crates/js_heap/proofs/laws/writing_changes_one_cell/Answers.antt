use Rattle.js_heap.proofs.MapLemmas.{writing-writes}
use Rattle.js_heap.proofs.laws.writing_changes_one_cell.Goals as goal

pub returns : goal.returns
returns c = writing-writes
