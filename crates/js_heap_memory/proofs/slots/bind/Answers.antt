use Rattle.js_heap_memory.proofs.ScopeLemmas.{value-at}
use Rattle.js_heap_memory.proofs.WithinLemmas.{slots-value}
use Rattle.js_heap_memory.proofs.slots.bind.Goals as goal

pub returns : goal.returns
returns c = record {
  value =
      λ names differ. rw (c.set.ensures, c.place-at.ensures)
      (value-at names c.args.slots.now c.args.name.number c.args.value differ);
  within = λ end h. rw c.set.ensures (slots-value end c.args.slots.now c.place-at.result c.args.value h);
}
