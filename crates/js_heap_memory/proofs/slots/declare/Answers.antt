use Rattle.js_heap_memory.proofs.ScopeLemmas.{bindings-append}
use Rattle.js_heap_memory.proofs.WithinLemmas.{slots-append}
use Rattle.js_heap_memory.proofs.slots.declare.Goals as goal

pub returns-clause-value : goal.returns-clause-value
returns-clause-value c = λ names. rw c.in_ok-push.ensures.value (bindings-append names c.args.slots.now _)

pub returns-clause-within : goal.returns-clause-within
returns-clause-within c = λ end h k. rw c.in_ok-push.ensures.value (slots-append end c.args.slots.now _ k h)
