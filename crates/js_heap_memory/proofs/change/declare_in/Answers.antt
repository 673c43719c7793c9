use Rattle.js_heap_memory.proofs.change.declare_in.Goals as goal

pub returns-clause-within : goal.returns-clause-within
returns-clause-within c = c.declare.ensures.within
