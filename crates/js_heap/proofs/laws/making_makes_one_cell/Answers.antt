use Rattle.js_heap.proofs.MapLemmas.{making-makes}
use Rattle.js_heap.proofs.laws.making_makes_one_cell.Goals as goal

pub returns : goal.returns
returns c = making-makes
