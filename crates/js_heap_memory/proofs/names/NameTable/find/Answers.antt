use Rattle.js_heap_memory.proofs.IndexLemmas.{found-text}
use Rattle.js_heap_memory.proofs.names.NameTable.find.Goals as goal

pub returns-in-Some-clause-text : goal.returns-in-Some-clause-text
returns-in-Some-clause-text c =
    (found-text c.self.inside.texts c.args.self.now c.self.inside.index c.args.text.now c.in-Some.number.now
    c.self.view_is c.self.invariant c.in-Some.ensures.value).0

pub returns-in-Some-clause-known : goal.returns-in-Some-clause-known
returns-in-Some-clause-known c =
    (found-text c.self.inside.texts c.args.self.now c.self.inside.index c.args.text.now c.in-Some.number.now
    c.self.view_is c.self.invariant c.in-Some.ensures.value).1
